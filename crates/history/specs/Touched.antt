-- Whether anything temporary touches a property at an instant, and how many slices are looked at from the end to tell (document 02,
-- Q-1). Assumes nothing.
use Rattle.std.specs.Prelude.{ℕ, suc, ◌≡◌, refl, Bool, true, false, cond, ◌&&◌, List, [], ◌∷◌, map, reverse, length}
use Rattle.laws.specs.Lists.{any, first}
use Rattle.numbers.specs.Numbers.{none}
use Rattle.numbers.specs.declared.Instant.{Instant}
use Rattle.slice.specs.Record.{permdelta, tempdelta, Property, unmentioned, says, Slice}
use Rattle.history.specs.Snapshot.{valid, instants}
use Rattle.history.specs.Source.{mentions}

-- a counted TEMPDELTA that is valid at t and mentions property n
unfoldable pub touches : Instant → ℕ → Slice → Bool
touches t n d = valid t d && mentions n d

-- how many slices there are from the end up to and with the last that passes a test; all where none does
unfoldable pub looked : (Slice → Bool) → List Slice → ℕ
looked test slices = cond (any test slices) (suc (first test (reverse slices))) (length slices)

-- ---- computed on a few slices
abbrev never : ℕ
never = none.0

-- a slice of a kind by its period and two properties
abbrev slice' : ℕ → Bool → ℕ → ℕ → List Property → Slice
slice' kind cancelled begin end vs = record {
  kind = kind;
  cancelled = cancelled;
  correction = record { 0 = 0 };
  sequence = record { 0 = 1 };
  period = record { begin = record { 0 = begin }; end = record { 0 = end } };
  life = record { begin = none; end = none };
  properties = vs;
}

-- the first property is a code, the second is not mentioned
abbrev code : List Property
code = says (2 ∷ 7 ∷ []) ∷ unmentioned ∷ []

-- a TEMPDELTA from 10 to 20; one without an end; one that says nil; one of the other property
abbrev hit : Slice
hit = slice' tempdelta false 10 20 code

abbrev endless : Slice
endless = slice' tempdelta false 10 never code

abbrev nil : Slice
nil = slice' tempdelta false 10 20 (says (1 ∷ 4 ∷ []) ∷ unmentioned ∷ [])

abbrev other : Slice
other = slice' tempdelta false 10 20 (unmentioned ∷ says (2 ∷ 7 ∷ []) ∷ [])

-- a cancelled one; a PERMDELTA
abbrev gone : Slice
gone = slice' tempdelta true never never (unmentioned ∷ unmentioned ∷ [])

abbrev lasting : Slice
lasting = slice' permdelta false 10 never code

-- which of them touch the first property: before the begin, at the begin, before the end, at the end
abbrev touched_all : ℕ → List Bool
touched_all t = map (touches (record { 0 = t }) 0) (hit ∷ endless ∷ nil ∷ other ∷ gone ∷ lasting ∷ [])

touched_examples : map touched_all (9 ∷ 10 ∷ 19 ∷ 20 ∷ [])
    ≡ (false ∷ false ∷ false ∷ false ∷ false ∷ false ∷ [])
    ∷ (true ∷ true ∷ true ∷ false ∷ false ∷ false ∷ [])
    ∷ (true ∷ true ∷ true ∷ false ∷ false ∷ false ∷ [])
    ∷ (false ∷ true ∷ false ∷ false ∷ false ∷ false ∷ [])
    ∷ []
unfolding touches mentions instants
touched_examples = refl

-- none; the last, the first, one in the middle, two of which the later counts; none that touches
abbrev tables : List (List Slice)
tables =
    []
    ∷ (other ∷ gone ∷ hit ∷ [])
    ∷ (hit ∷ other ∷ gone ∷ [])
    ∷ (other ∷ nil ∷ gone ∷ [])
    ∷ (hit ∷ endless ∷ other ∷ [])
    ∷ (other ∷ gone ∷ lasting ∷ [])
    ∷ []

looked_examples : map (looked (touches (record { 0 = 10 }) 0)) tables ≡ 0 ∷ 1 ∷ 3 ∷ 2 ∷ 2 ∷ 3 ∷ []
unfolding looked touches mentions instants
looked_examples = refl
