-- The check as the code makes it, test after test. Assumes nothing.
use Prim.Native.Nat.{ℕ, ◌-◌, ◌*◌}
use mathlib.Core.Path.{◌≡◌, refl, sym, ◌∙◌, ap}
use mathlib.Core.List.{List, []}
use mathlib.Core.Bool.{Bool, true, false, cond, not, ◌&&◌}
use native.Mathlib.Omega.{arith}
use lib.ListN.{length, take, drop, length-drop}
use lib.Dec.{eqb}
use borrow.Author.Tests.{eqb-true, eq-eqb}
use Rattle.laws.specs.Refusals.{Test, refuse}
use Rattle.laws.proofs.Lists.{rest_whole}
use Rattle.octets.specs.Bytes.{filled, same_bytes}
use Rattle.octets.proofs.Runs.{filled_join, filled_drop}
use Rattle.slice.specs.Record.{of_side, record_size, slice_size, kind_of, cancelled_of}
use Rattle.slice.specs.Check.{refused, reserved_clear, emptied, counted_tests, record_tests, slice_tests, check_record, check_slice}
use Rattle.slice.specs.Check.{Checked, sound}

-- 13 to 16: a cancelled record is emptied, any other passes 14 to 16
abbrev pub from13 : ℕ → List ℕ → Checked
from13 stride r =
    cond (not (cancelled_of r)) (refuse refused (counted_tests stride r) sound) (cond (not (emptied stride r)) (refused 13) sound)

cancelled_or_not : (cancelled clear : Bool) (counted : List Test)
    → cond (cancelled && not clear) (refused 13) (refuse refused (cond cancelled [] counted) sound)
    ≡ cond (not cancelled) (refuse refused counted sound) (cond (not clear) (refused 13) sound)
cancelled_or_not true clear counted = refl
cancelled_or_not false clear counted = refl

pub rules_are : (stride side : ℕ) (r : List ℕ) → refuse refused (record_tests stride side r) sound
    ≡ cond (not (of_side side (kind_of r))) (refused 11) (cond (not (reserved_clear r)) (refused 12) (from13 stride r))
unfolding record_tests
rules_are stride side r =
    ap (λ (x : Checked). cond (not (of_side side (kind_of r))) (refused 11) (cond (not (reserved_clear r)) (refused 12) x))
    (cancelled_or_not (cancelled_of r) (emptied stride r) (counted_tests stride r))

pub record_is : (stride side : ℕ) (r : List ℕ) → check_record stride side r
    ≡ cond (not (eqb (length r) (record_size stride))) (refused 9) (refuse refused (record_tests stride side r) sound)
unfolding check_record
record_is stride side r = refl

pub slice_is : (stride : ℕ) (feature : List ℕ) (side : ℕ) (s : List ℕ) → check_slice stride feature side s
    ≡ cond (not (eqb (length s) (slice_size stride))) (refused 9)
    (cond (not (same_bytes (take 16 s) feature)) (refused 10) (refuse refused (record_tests stride side (drop 16 s)) sound))
unfolding check_slice slice_tests
slice_is stride feature side s = refl

-- what is read of a cancelled record: its times in two halves, and what stands behind the first 32 bytes
pub emptied_is : (stride : ℕ) (r : List ℕ) → length r ≡ record_size stride → let behind = take (length r - 32) (drop 32 r) in
    emptied stride r ≡ (filled 255 8 r 8 && filled 255 8 r 16 && filled 0 (length behind) behind 0)
unfolding emptied
emptied_is stride r h =
    let size : length (drop 32 r) ≡ 8 * stride = length-drop 32 r ∙ omega arith in
    rw (rest_whole 32 r, size, filled_drop 0 (8 * stride) r 32 0 (omega arith), filled_join 255 8 8 r 8)

-- past 9 and 10 what is left of a slice is its record
pub slice_past10 : (stride : ℕ) (feature : List ℕ) (side : ℕ) (s : List ℕ) → eqb (length s) (slice_size stride) ≡ true
    → same_bytes (take 16 s) feature ≡ true
    → check_slice stride feature side s ≡ check_record stride side (take (length s - 16) (drop 16 s))
slice_past10 stride feature side s size named =
    let whole : length s ≡ slice_size stride = eqb-true _ _ size in
    let rest : length (drop 16 s) ≡ record_size stride = length-drop 16 s ∙ omega arith in
    rw (rest_whole 16 s)
    (slice_is stride feature side s ∙ rw (size, named) (sym (record_is stride side (drop 16 s) ∙ rw (eq-eqb _ _ rest))))
