-- Derived baselines and the states of instants, computed on a few slices. Assumes nothing.
use Rattle.std.specs.Prelude.{ℕ, ◌≡◌, refl, false, true, List, [], ◌∷◌, ◌++◌, map}
use Rattle.numbers.specs.Numbers.{none}
use Rattle.numbers.specs.declared.Instant.{Instant}
use Rattle.slice.specs.Record.{baseline, permdelta, Property, unmentioned, says, Slice}
use Rattle.history.specs.Counted.{holds}
use Rattle.history.specs.Permanent.{Standing, refuses, known}
use Rattle.history.specs.Snapshot.{snapshot_at, instants}
use Rattle.history.specs.Reach.{reaches}
use Rattle.history.specs.Derived.{derived_baselines, derivations}

abbrev never : ℕ
never = none.0

-- a slice of a kind, by its sequence number, its period, its life and two properties
abbrev slice' : ℕ → ℕ → ℕ → ℕ → ℕ → ℕ → List Property → Slice
slice' kind n begin end born gone vs = record {
  kind = kind;
  cancelled = false;
  correction = record { 0 = 0 };
  sequence = record { 0 = n };
  period = record { begin = record { 0 = begin }; end = record { 0 = end } };
  life = record { begin = record { 0 = born }; end = record { 0 = gone } };
  properties = vs;
}

-- the bytes of a value, of another, and those that say nil, unknown
abbrev red : List ℕ
red = 7 ∷ []

abbrev blue : List ℕ
blue = 8 ∷ []

abbrev unknown : List ℕ
unknown = 1 ∷ 4 ∷ []

abbrev changed : ℕ → ℕ → List ℕ → Slice
changed n t b = slice' permdelta n t never never never (says b ∷ unmentioned ∷ [])

-- a commissioning at 10
abbrev opening : Slice
opening = slice' permdelta 1 10 never 10 never (says red ∷ unmentioned ∷ [])

-- a slice of a kind that was cancelled: it says nothing but its key
abbrev taken_back : ℕ → ℕ → Slice
taken_back kind n = record {
  kind = kind;
  cancelled = true;
  correction = record { 0 = 1 };
  sequence = record { 0 = n };
  period = record { begin = none; end = none };
  life = record { begin = none; end = none };
  properties = unmentioned ∷ unmentioned ∷ [];
}

-- a decommissioning at 40
abbrev closing : Slice
closing = slice' permdelta 4 40 never never 40 (unmentioned ∷ unmentioned ∷ [])

-- a BASELINE of a feature commissioned at 10, by its sequence number, its period, its life end and its first property
abbrev based' : ℕ → ℕ → ℕ → ℕ → List ℕ → Slice
based' n begin end gone b = slice' baseline n begin end 10 gone (says b ∷ says red ∷ [])

-- a BASELINE without end, a change at its begin, which is already in it, and a change after it
abbrev anchored : List Slice
anchored = based' 1 10 never never red ∷ changed 1 10 blue ∷ changed 2 20 blue ∷ []

-- from 20 to 30 no BASELINE holds, and a change at 25 has none to change
abbrev gap : List Slice
gap = based' 1 10 20 never red ∷ based' 2 30 never never red ∷ changed 1 25 blue ∷ []

-- a BASELINE without end, with a life end at 30
abbrev ended : List Slice
ended = based' 1 10 never 30 red ∷ []

-- a baseline of a commissioned feature
abbrev derived : ℕ → ℕ → ℕ → List ℕ → Slice
derived n begin end b = slice' baseline n begin end 10 never (says b ∷ says unknown ∷ [])

-- histories, one by one: a commissioning; a change; a change that changes nothing; a change that was cancelled; a decommissioning;
-- then those that begin with a BASELINE
abbrev histories : List (List Slice)
histories =
    (opening ∷ [])
    ∷ (opening ∷ changed 2 20 blue ∷ [])
    ∷ (opening ∷ changed 2 20 blue ∷ changed 3 30 blue ∷ [])
    ∷ (opening ∷ taken_back permdelta 2 ∷ [])
    ∷ (opening ∷ changed 2 20 blue ∷ closing ∷ [])
    ∷ anchored
    ∷ gap
    ∷ ended
    ∷ []

-- what is derived of them: equal neighbours stay two, a property that nothing mentions is nil, unknown, and nothing is left of a
-- change that was cancelled; there is no record in the gap, and none from the life end on, which is a change instant
examples : map (derived_baselines unknown) histories
    ≡ (derived 1 10 never red ∷ [])
    ∷ (derived 1 10 20 red ∷ derived 2 20 never blue ∷ [])
    ∷ (derived 1 10 20 red ∷ derived 2 20 30 blue ∷ derived 3 30 never blue ∷ [])
    ∷ (derived 1 10 never red ∷ [])
    ∷ (derived 1 10 20 red ∷ derived 2 20 40 blue ∷ [])
    ∷ (based' 1 10 20 never red ∷ based' 2 20 never never blue ∷ [])
    ∷ (based' 1 10 20 never red ∷ based' 2 30 never never red ∷ [])
    ∷ (based' 1 10 30 30 red ∷ [])
    ∷ []
unfolding derivations
examples = refl

-- the snapshot of some slices at an instant, with no TEMPDELTA
abbrev at : List Slice → ℕ → Standing
at slices t = snapshot_at (record { 0 = t }) slices []

-- the state that a BASELINE above gives, by its life end
abbrev state : ℕ → Standing
state gone =
    known (record { life = record { begin = record { 0 = 10 }; end = record { 0 = gone } }; properties = says red ∷ says red ∷ [] })

-- before the first BASELINE, in it, at the gap's begin and at its last instant, in the second; then before the life end
-- and from it on
standings : map (at gap) (9 ∷ 10 ∷ 20 ∷ 29 ∷ 30 ∷ []) ++ map (at ended) (29 ∷ 30 ∷ 31 ∷ [])
    ≡ refuses 20 ∷ state never ∷ refuses 20 ∷ refuses 20 ∷ state never ∷ state 30 ∷ refuses 22 ∷ refuses 22 ∷ []
unfolding instants
standings = refl

-- ---- open ends
-- a BASELINE by its sequence number, its period and its first property, commissioned at its begin
abbrev lasting : ℕ → ℕ → ℕ → List ℕ → Slice
lasting n begin end b = slice' baseline n begin end begin never (says b ∷ says red ∷ [])

-- the state that it gives
abbrev since : ℕ → List ℕ → Standing
since begin b =
    known (record { life = record { begin = record { 0 = begin }; end = none }; properties = says b ∷ says red ∷ [] })

-- three without an end; one from 150 to 160 within one without an end
abbrev three : List Slice
three = lasting 1 10 never red ∷ lasting 2 20 never blue ∷ lasting 3 30 never red ∷ []

abbrev short : List Slice
short = lasting 1 100 never red ∷ lasting 2 150 160 blue ∷ []

-- two of one begin, without an end or with one, and one that begins later
abbrev twins : ℕ → List Slice
twins end = lasting 1 10 never red ∷ lasting 2 10 end blue ∷ lasting 3 20 never red ∷ []

-- one that was cancelled begins nowhere
abbrev spared : List Slice
spared = lasting 1 10 never red ∷ taken_back baseline 2 ∷ []

-- an open BASELINE closes where the next one begins, for good: at 160 there is no state. Two of one begin clash until a third
-- begins, which closes what is open; a fixed end stays, and clashes with the third up to it
closings : map (at three) (9 ∷ 19 ∷ 20 ∷ 29 ∷ 30 ∷ []) ++ map (at short) (149 ∷ 150 ∷ 159 ∷ 160 ∷ [])
    ++ map (at (twins never)) (10 ∷ 19 ∷ 20 ∷ []) ++ map (at (twins 30)) (10 ∷ 19 ∷ 20 ∷ 29 ∷ 30 ∷ [])
    ++ map (at spared) (10 ∷ 4294967294 ∷ [])
    ≡ (refuses 20 ∷ since 10 red ∷ since 20 blue ∷ since 20 blue ∷ since 30 red ∷ [])
    ++ (since 100 red ∷ since 150 blue ∷ since 150 blue ∷ refuses 20 ∷ [])
    ++ (refuses 21 ∷ refuses 21 ∷ since 20 red ∷ [])
    ++ (refuses 21 ∷ refuses 21 ∷ refuses 21 ∷ refuses 21 ∷ since 20 red ∷ [])
    ++ (since 10 red ∷ since 10 red ∷ [])
unfolding instants
closings = refl

-- what is derived of an open BASELINE and a short one: nothing from 160 on
closed : derived_baselines unknown short ≡ lasting 1 100 150 red ∷ lasting 2 150 160 blue ∷ []
unfolding derivations
closed = refl

-- a BASELINE reaches beyond its period: one from 5 to 7 shuts one that is open from 0, and at 8 there is no state any more
abbrev early : Slice
early = lasting 1 0 never red

abbrev late : Slice
late = lasting 2 5 7 blue

beyond : at (early ∷ []) 8 ∷ at (early ∷ late ∷ []) 8 ∷ [] ≡ since 0 red ∷ refuses 20 ∷ []
unfolding instants
beyond = refl

abbrev eight : Instant
eight = record { 0 = 8 }

reach : holds eight late.period.begin late.period.end ∷ reaches eight late ∷ [] ≡ false ∷ true ∷ []
unfolding instants reaches
reach = refl
