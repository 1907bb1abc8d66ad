-- `table::arrival::arrive` meets its contract: past the two checks, what is left is the filing of a record. Assumes nothing.
use Prim.Native.Nat.{ℕ}
use mathlib.Core.Path.{◌≡◌, sym, ap, ◌∙◌}
use mathlib.Core.List.{List}
use native.Mathlib.Omega.{arith}
use lib.ListN.{length, length-drop}
use borrow.Author.Rules.{rules}
use Rattle.laws.proofs.Lists.{rest_whole}
use Rattle.slice.specs.Record.{slice_size}
use Rattle.slice.specs.Check.{checked_reply, check_slice, sound}
use Rattle.slice.proofs.Sound.{sound_slice}
use Rattle.table.specs.Header.{side_of, feature_of, stride_of, room_of, records_of}
use Rattle.table.specs.Rules.{check_table}
use Rattle.table.specs.Arriving.{filing_of, arrival_reply}
use Rattle.table.specs.declared.check.Sides.TheVariants.{Both}
use Rattle.slice.proofs.Replies.{checked_same}
use Rattle.table.proofs.Sound.{SoundTable, sound_table, table_refuses, slice_refuses, slice_passes}
use Rattle.table.proofs.arrival.arrive.Goals as goal

-- past the check of the table
facts : (t : List ℕ) → checked_reply sound ≡ checked_reply (check_table Both t) → SoundTable (stride_of t) Both t
facts t e = sound_table Both t (checked_same _ _ (sym e))

-- past that of the slice, in the numbers of the code
module _ (t s : List ℕ) (stride side : ℕ) (d : stride ≡ stride_of t) (f : side ≡ side_of t)
    (e : checked_reply sound ≡ checked_reply (check_slice stride (feature_of t) side s)) where
  passed : check_slice (stride_of t) (feature_of t) (side_of t) s ≡ sound
  passed = rw (← d, ← f) (checked_same _ _ (sym e))

  long : length s ≡ slice_size (stride_of t)
  long = (sound_slice _ _ _ _ passed).size

pub returns-in_err-check_table-clause-answer : goal.returns-in_err-check_table-clause-answer
returns-in_err-check_table-clause-answer c =
    let e = table_refuses c.args.table.now c.args.slice.now _ (checked_same _ _ (sym c.in_err-check_table.ensures)) in
    search (rules, e)

pub slice_bounds-check_slice-end : goal.slice_bounds-check_slice-end
slice_bounds-check_slice-end c = omega (arith, (facts c.args.table.now c.in_ok-check_table.ensures).headed)

pub returns-in_err-check_slice-clause-answer : goal.returns-in_err-check_slice-clause-answer
returns-in_err-check_slice-clause-answer c =
    let t = c.args.table.now in
    let d = rw (c.stride_of-stride.ensures, c.side_of-side.ensures) at c.in_err-check_slice.ensures in
    let e = slice_refuses t c.args.slice.now (checked_same _ _ (sym c.in_ok-check_table.ensures)) _ (checked_same _ _ (sym d)) in
    search (rules, e)

pub slice_bounds-file-count : goal.slice_bounds-file-count
slice_bounds-file-count c =
    let a = c.args in
    omega (arith, long a.table.now a.slice.now _ _ c.stride_of-stride.ensures c.side_of-side.ensures c.in_ok-check_slice.ensures)

pub slice_bounds-file-start : goal.slice_bounds-file-start
slice_bounds-file-start c =
    let a = c.args in
    omega (arith, long a.table.now a.slice.now _ _ c.stride_of-stride.ensures c.side_of-side.ensures c.in_ok-check_slice.ensures)

pub file-requires : goal.file-requires
file-requires c =
    let t = c.args.table.now in
    let s = c.args.slice.now in
    let f = facts t c.in_ok-check_table.ensures in
    let l = long t s _ _ c.stride_of-stride.ensures c.side_of-side.ensures c.in_ok-check_slice.ensures in
    rw c.record_size-size.ensures (
      record { roomy = f.roomy; rising = f.rising },
      rw (rest_whole 16 s) (length-drop 16 s ∙ omega (arith, l)),
    )

pub returns-clause-answer : goal.returns-clause-answer
returns-clause-answer c =
    let t = c.args.table.now in
    let s = c.args.slice.now in
    let p = passed t s _ _ c.stride_of-stride.ensures c.side_of-side.ensures c.in_ok-check_slice.ensures in
    ap arrival_reply
    (c.file.ensures.answer
    ∙ (λ i. filing_of (room_of (c.record_size-size.ensures i) t) (rest_whole 16 s i) (records_of (c.record_size-size.ensures i) t))
    ∙ sym (slice_passes t s (checked_same _ _ (sym c.in_ok-check_table.ensures)) p))
