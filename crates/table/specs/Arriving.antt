-- The new table and the arrival of a slice (document 01, "Arrival"; 001, 2.6 and 3.7). Assumes nothing.
use Rattle.std.specs.Prelude.{ℕ, List, [], ◌∷◌, ◌++◌, Bool, true, false, cond, not, ◌&&◌, length, drop, ltb, eqb, Result, Ok, Err}
use Rattle.std.proofs.Math.Option.{Option, none, some}
use Rattle.laws.specs.Keyed.{stored, put}
use Rattle.laws.specs.Refusals.{Test, test, refuse}
use Rattle.laws.specs.Replies.{Reply, refused_with, accepted_as}
use Rattle.octets.specs.Bytes.{same_bytes}
use Rattle.numbers.specs.Numbers.{lower_correction, same_correction}
use Rattle.slice.specs.Record.{record_size, correction_of, key_of, key_less, same_key}
use Rattle.slice.specs.Check.{slice_tests}
use Rattle.table.specs.Header.{side_of, feature_of, stride_of, header_of, room_of, records_of, written}
use Rattle.table.specs.Rules.{takes, table_tests, ruling}
use Rattle.table.specs.declared.check.Sides.TheVariants.{Both}
use Rattle.table.specs.declared.arrival.Arrival.{Arrival}
use Rattle.table.specs.declared.arrival.Arrival.TheVariants as arrival

-- ---- a new table: 1, 2, and then its header and no record
-- what making a table returns: made, or the number of the refusal
abbrev pub Creation : Type 0
Creation = Result Unit ℕ

abbrev pub creation_refused : ℕ → Creation
creation_refused n = Err n

unfoldable pub creation_tests : List ℕ → ℕ → List Test
creation_tests t side = test 1 (ltb (length t) 32) ∷ test 2 (not (takes Both side)) ∷ []

unfoldable pub creation_of : List ℕ → ℕ → Creation
creation_of t side = refuse creation_refused (creation_tests t side) (Ok tt)

-- in numbers: made, 1
unfoldable pub creation_reply : Creation → Reply
creation_reply (Ok _) = accepted_as 1 0
creation_reply (Err n) = refused_with n

-- the buffer after it
abbrev pub created : Creation → List ℕ → ℕ → List ℕ → List ℕ
created (Ok _) t side feature = header_of side feature 0 ++ drop 32 t
created (Err n) t side feature = t

-- ---- an arrival
-- what an arrival returns: one of the four accepted answers, or the number of the refusal
abbrev pub Arrived : Type 0
Arrived = Result Arrival ℕ

abbrev pub refused_arrival : ℕ → Arrived
refused_arrival n = Err n

-- the record of a slice in delivery, behind the feature's identifier
abbrev pub record_of : List ℕ → List ℕ
record_of s = drop 16 s

-- the stored record of a record's kind and sequence number
unfoldable pub stored_of : List ℕ → List (List ℕ) → Option (List ℕ)
stored_of r rs = stored key_of key_less same_key (key_of r) rs

-- same kind, sequence and correction as stored, other bytes
abbrev pub clashes : List ℕ → Option (List ℕ) → Bool
clashes r none = false
clashes r (some x) = same_correction (correction_of r) (correction_of x) && not (same_bytes r x)

-- new kind and sequence
abbrev pub is_new : Option (List ℕ) → Bool
is_new none = true
is_new (some x) = false

-- the four accepted answers: the kind and sequence number are new; the correction is higher than the stored one; lower; equal
abbrev pub accepted_of : List ℕ → Option (List ℕ) → Arrived
accepted_of r none = Ok arrival.Added
accepted_of r (some x) =
    cond (lower_correction (correction_of x) (correction_of r)) (Ok arrival.Replaced)
    (cond (lower_correction (correction_of r) (correction_of x)) (Ok arrival.Superseded) (Ok arrival.Repeat))

-- 17, 18, for a record that comes to stored ones in a room, and then its answer
unfoldable pub filing_tests : ℕ → List ℕ → List (List ℕ) → List Test
filing_tests room r rs =
    test 17 (clashes r (stored_of r rs))
    ∷ test 18 (is_new (stored_of r rs) && eqb (length rs) room)
    ∷ []

unfoldable pub filing_of : ℕ → List ℕ → List (List ℕ) → Arrived
filing_of room r rs = refuse refused_arrival (filing_tests room r rs) (accepted_of r (stored_of r rs))

-- 1 to 7 of the table, 9 to 16 of the slice, and then 17, 18
unfoldable pub arrival_of : List ℕ → List ℕ → Arrived
arrival_of t s =
    refuse refused_arrival (table_tests (stride_of t) Both t ++ slice_tests (stride_of t) (feature_of t) (side_of t) s)
    (filing_of (room_of (record_size (stride_of t)) t) (record_of s) (records_of (record_size (stride_of t)) t))

-- in numbers: added, 1; replaced, 2; superseded, 3; a repeat, 4
unfoldable pub arrival_reply : Arrived → Reply
arrival_reply (Ok arrival.Added) = accepted_as 1 0
arrival_reply (Ok arrival.Replaced) = accepted_as 2 0
arrival_reply (Ok arrival.Superseded) = accepted_as 3 0
arrival_reply (Ok arrival.Repeat) = accepted_as 4 0
arrival_reply (Err n) = refused_with n

-- the table after an answer, where us are its records with the new one in its place
abbrev pub changed : Arrived → List ℕ → List (List ℕ) → List ℕ
changed (Ok arrival.Added) t us = written t us
changed (Ok arrival.Replaced) t us = written t us
changed (Ok arrival.Superseded) t us = t
changed (Ok arrival.Repeat) t us = t
changed (Err n) t us = t

-- the records with a new one in its place, or in the room of the one of its key
unfoldable pub filed : List ℕ → List (List ℕ) → List (List ℕ)
filed r rs = put key_of key_less same_key r rs

-- the table after an answer to a record
abbrev pub after : Arrived → ℕ → List ℕ → List ℕ → List ℕ
after a size t r = changed a t (filed r (records_of size t))

-- the table after the arrival of a slice
abbrev pub arrived_at : List ℕ → List ℕ → List ℕ
arrived_at t s = after (arrival_of t s) (record_size (stride_of t)) t (record_of s)

-- `unfolding arriving` opens every definition that an arrival computes by
unfoldable pub arriving : Unit {0}
unfolding creation_tests creation_of creation_reply stored_of filing_tests filing_of arrival_of arrival_reply filed ruling
arriving = tt
