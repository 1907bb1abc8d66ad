-- The slice check, 9 to 16 (document 01, "Refusal numbers"). Assumes nothing.
use Rattle.std.specs.Prelude.{ℕ, suc, ◌*◌, List, [], ◌∷◌, Bool, cond, not, ◌&&◌, length, take, drop, eqb, ltb}
use Rattle.std.specs.Prelude.{Result, Ok, Err}
use Rattle.laws.specs.Lists.{any}
use Rattle.laws.specs.Refusals.{Test, test, refuse}
use Rattle.laws.specs.Replies.{Reply, refused_with, accepted_as, refusal_number}
use Rattle.octets.specs.Bytes.{filled, same_bytes}
use Rattle.numbers.specs.Numbers.{numbers}
use Rattle.property.specs.Eight.{breaks, eight}
use Rattle.slice.specs.Record.{of_side, record_size, slice_size, kind_of, flags_of, cancelled_of, parts_of, view_of}
use Rattle.slice.specs.Rules.{baseline_times, permdelta_times, tempdelta_times, times_of, times_right, content_of, content_right}
use Rattle.slice.specs.Refusing.{number}
use Rattle.slice.specs.declared.check.Failing.{Failing}

-- what a check returns: nothing is refused, or the number of the refusal
abbrev pub Checked : Type 0
Checked = Result Unit ℕ

abbrev pub sound : Checked
sound = Ok tt

abbrev pub refused : ℕ → Checked
refused n = Err n

-- the same in numbers: nothing is refused, 1
unfoldable pub checked_reply : Checked → Reply
checked_reply (Ok _) = accepted_as 1 0
checked_reply (Err n) = refused_with n

-- the number of a refusal, and 0 where nothing is refused
abbrev pub number_of : Checked → ℕ
number_of c = refusal_number (checked_reply c)

-- flag bits 1-7 and bytes 24-31 are zero
unfoldable pub reserved_clear : List ℕ → Bool
reserved_clear r = ltb (flags_of r) 2 && filled 0 8 r 24

-- bytes 8-23 are all 255, and the properties' bytes all zero
unfoldable pub emptied : ℕ → List ℕ → Bool
emptied stride r = filled 255 16 r 8 && filled 0 (8 * stride) r 32

-- 14 to 16, which a cancelled record skips
unfoldable pub counted_tests : ℕ → List ℕ → List Test
counted_tests stride r =
    test 14 (any breaks (parts_of stride r))
    ∷ test 15 (not (times_right (view_of stride r)))
    ∷ test 16 (not (content_right (view_of stride r)))
    ∷ []

-- 11 to 16
unfoldable pub record_tests : ℕ → ℕ → List ℕ → List Test
record_tests stride side r =
    test 11 (not (of_side side (kind_of r)))
    ∷ test 12 (not (reserved_clear r))
    ∷ test 13 (cancelled_of r && not (emptied stride r))
    ∷ cond (cancelled_of r) [] (counted_tests stride r)

-- 9 to 16
unfoldable pub slice_tests : ℕ → List ℕ → ℕ → List ℕ → List Test
slice_tests stride feature side s =
    test 9 (not (eqb (length s) (slice_size stride)))
    ∷ test 10 (not (same_bytes (take 16 s) feature))
    ∷ record_tests stride side (drop 16 s)

-- the check of a record by itself; bytes that are no record of that stride are refused as a slice of a wrong size is
unfoldable pub check_record : ℕ → ℕ → List ℕ → Checked
check_record stride side r = refuse refused (test 9 (not (eqb (length r) (record_size stride))) ∷ record_tests stride side r) sound

-- of records one behind the other the first that is refused: its place, counted from i on, and its refusal
abbrev pub Review : Type 0
Review = Result Unit (ℕ × ℕ)

abbrev pub all_sound : Review
all_sound = Ok tt

abbrev pub failing : ℕ → ℕ → Review
failing i n = Err (i, n)

abbrev pub stopped : ℕ → Checked → Review → Review
stopped i (Ok _) rest = rest
stopped i (Err n) rest = failing i n

abbrev pub review_from : ℕ → ℕ → ℕ → List (List ℕ) → Review
review_from stride side i [] = all_sound
review_from stride side i (r ∷ rs) = stopped i (check_record stride side r) (review_from stride side (suc i) rs)

unfoldable pub review_of : ℕ → ℕ → List (List ℕ) → Review
review_of stride side rs = review_from stride side 0 rs

unfoldable pub check_slice : ℕ → List ℕ → ℕ → List ℕ → Checked
check_slice stride feature side s = refuse refused (slice_tests stride feature side s) sound

-- what the code tells of it
abbrev pub reviewed : Result Unit Failing → Review
reviewed (Ok u) = Ok u
reviewed (Err f) = failing f.place (number f.refusal)

-- `unfolding checking` opens every definition that the check computes by
unfoldable pub checking : Unit {0}
unfolding reserved_clear emptied counted_tests record_tests slice_tests check_record review_of check_slice checked_reply numbers
    of_side view_of baseline_times permdelta_times tempdelta_times times_of times_right content_of content_right same_bytes
    eight
checking = tt
