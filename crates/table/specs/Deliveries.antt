-- Deliveries: which answer each gets, and the table of their set worked out afresh (demand 3). Assumes nothing.
use Rattle.std.specs.Prelude.{ℕ, ◌+◌, ◌≡◌, List, [], ◌∷◌, ◌++◌, map, Bool, true, not, ◌↔◌, length, drop, Ok}
use Rattle.laws.specs.Lists.{kept, joined}
use Rattle.laws.specs.Keyed.{In, Consistent, Fresh, distinct, afresh}
use Rattle.numbers.specs.Numbers.{lower_correction}
use Rattle.slice.specs.Record.{correction_of, key_of, key_less, same_key}
use Rattle.slice.specs.Check.{check_slice}
use Rattle.table.specs.Header.{stride1, header_of}
use Rattle.table.specs.Rules.{is_refused}
use Rattle.table.specs.Arriving.{refused_arrival, record_of, arrived_at, Arrived}
use Rattle.table.specs.declared.arrival.Arrival.TheVariants.{Added, Replaced, Superseded, Repeat}

-- ---- one delivery
-- the answer a to a record r that comes to the records rs in a room
pub record Decided (room : ℕ) (r : List ℕ) (rs : List (List ℕ)) (a : Arrived) : Type 0 where
  -- no stored record has its kind and sequence
  pub added : ((x : List ℕ) → In x rs → key_of x ≡ key_of r → ⊥) → (length rs ≡ room → ⊥) → a ≡ Ok Added
  pub full : ((x : List ℕ) → In x rs → key_of x ≡ key_of r → ⊥) → length rs ≡ room → a ≡ refused_arrival 18
  -- x is the stored record of its kind and sequence: its correction is lower; it is higher; it is the same, with
  -- equal or other bytes
  pub replaced : (x : List ℕ) → In x rs → key_of x ≡ key_of r → lower_correction (correction_of x) (correction_of r) ≡ true
      → a ≡ Ok Replaced
  pub superseded : (x : List ℕ) → In x rs → key_of x ≡ key_of r → lower_correction (correction_of r) (correction_of x) ≡ true
      → a ≡ Ok Superseded
  pub repeated : (x : List ℕ) → In x rs → key_of x ≡ key_of r → correction_of r ≡ correction_of x → r ≡ x → a ≡ Ok Repeat
  pub clash : (x : List ℕ) → In x rs → key_of x ≡ key_of r → correction_of r ≡ correction_of x → (r ≡ x → ⊥) → a ≡ refused_arrival 17

-- ---- many
-- the buffer after the arrivals of slices, in that order
abbrev pub delivered_to : List ℕ → List (List ℕ) → List ℕ
delivered_to t [] = t
delivered_to t (s ∷ ss) = delivered_to (arrived_at t s) ss

-- the records of those slices that pass the slice check for a feature and a side
abbrev pub passes : ℕ → List ℕ → ℕ → List ℕ → Bool
passes stride feature side s = not (is_refused (check_slice stride feature side s))

abbrev pub sent_to : ℕ → List ℕ → ℕ → List (List ℕ) → List (List ℕ)
sent_to stride feature side ss = map record_of (kept (passes stride feature side) ss)

-- a delivery of a set: its slices that pass the check are exactly those of the set, in any order and with repeats. Any slices that
-- fail may be among them
abbrev pub Delivers : List ℕ → ℕ → List (List ℕ) → List (List ℕ) → Type 0
Delivers feature side set ss = (s : List ℕ) → In s set ↔ (In s ss × (passes stride1 feature side s ≡ true))

-- no two records of a set are alike in kind, sequence and correction but different in content
abbrev pub Agree : List (List ℕ) → Type 0
Agree set = Consistent key_of key_less same_key correction_of lower_correction (λ r. In r set)

-- how many kinds and sequences a set has
abbrev pub pairs_in : List (List ℕ) → ℕ
pairs_in set = distinct key_of key_less same_key set

-- for each kind and sequence of a set of records the one with the highest correction, in rising order
unfoldable pub records_afresh : List (List ℕ) → List (List ℕ)
records_afresh set = afresh key_of key_less same_key correction_of lower_correction set

-- a buffer that holds records as the table of a side and a feature: its header and count, the records, and every byte beyond
-- them as it was
abbrev pub holding : List ℕ → ℕ → List ℕ → List (List ℕ) → List ℕ
holding buffer side feature rs = header_of side feature (length rs) ++ (joined rs ++ drop (32 + length (joined rs)) buffer)

-- the table of a set of records, worked out afresh
abbrev pub table_afresh : List ℕ → ℕ → List ℕ → List (List ℕ) → List ℕ
table_afresh buffer side feature set = holding buffer side feature (records_afresh set)

-- what it is to be the records of a set's table: they rise, they are in the set, and each record of the set is covered by one of
-- its kind and sequence whose correction is not lower
abbrev pub TableOf : List (List ℕ) → List (List ℕ) → Type 0
TableOf set rs = Fresh key_of key_less same_key correction_of lower_correction (λ r. In r set) rs
