-- What the steps of a check and of an arrival ask and answer. No public promise cites this file. Assumes nothing.
use Rattle.std.specs.Prelude.{ℕ, ◌≤◌, ◌≡◌, List, [], ◌∷◌, Bool, true, cond, not, ◌&&◌, length, get_or, ltb, Result, Ok, Err}
use Rattle.std.proofs.Math.Option.{some}
use Rattle.laws.specs.Lists.{first}
use Rattle.laws.specs.Refusals.{test, refuse}
use Rattle.slice.specs.Record.{record_size, key_of, key_less, same_key}
use Rattle.slice.specs.declared.record.Key.{Key}
use Rattle.table.specs.Header.{count_of, stride_of, room_of, records_of}
use Rattle.table.specs.Rules.{in_order}
use Rattle.table.specs.Arriving.{refused_arrival, clashes, accepted_of, Arrived}

-- ---- what a walk over the records goes by
-- the count of a table is within its room, where its records have a size; where they have the size of its version
abbrev pub Roomy : ℕ → List ℕ → Type 0
Roomy size t = count_of t ≤ room_of size t

abbrev pub Whole : List ℕ → Type 0
Whole t = Roomy (record_size (stride_of t)) t

-- and the records rise
pub record Ordered (size : ℕ) (t : List ℕ) : Type 0 where
  pub roomy : Roomy size t
  pub rising : in_order (records_of size t) ≡ true

-- ---- the steps of an arrival
-- the place of the first record whose key is not below a key
unfoldable pub place_for : Key → List (List ℕ) → ℕ
place_for k rs = first (λ x. not (key_less (key_of x) k)) rs

-- the record at a place has a key
unfoldable pub holds : Key → ℕ → List (List ℕ) → Bool
holds k at rs = ltb at (length rs) && same_key k (key_of (get_or rs at []))

-- the place of the record that has a key, or else the place that such a record would take
unfoldable pub searched : Key → List (List ℕ) → Result ℕ ℕ
searched k rs = cond (holds k (place_for k rs) rs) (Ok (place_for k rs)) (Err (place_for k rs))

-- the answer to a record that comes to the stored one of its key
abbrev pub answer_to : List ℕ → List ℕ → Arrived
answer_to r x = refuse refused_arrival (test 17 (clashes r (some x)) ∷ []) (accepted_of r (some x))
