-- One turn of a loop over a table's records, by the record that it read: its slice is the next one, and its size is that of a
-- record. Assumes nothing.
use Prim.Native.Nat.{ℕ, ◌+◌, ◌<◌}
use mathlib.Core.Path.{◌≡◌, sym, ap, ◌∙◌}
use mathlib.Core.List.{List, ◌∷◌}
use lib.ListN.{length, drop, get_or}
use Rattle.slice.specs.Record.{record_size, Slice, view_of}
use Rattle.table.specs.Header.{count_of, stride_of, record_at}
use Rattle.table.specs.Steps.{Whole}
use Rattle.state.specs.Asking.{slices_of}
use Rattle.state.specs.Steps.{Stored}
use Rattle.state.proofs.Slices.{slices_at, slice_at_lem}
use Rattle.state.proofs.Walks.{read_here}

-- what was read at a place, looked at by a stride, says the slice of that place
pub record Turn (t : List ℕ) (i n : ℕ) (r : List ℕ) : Type 0 where
  pub next : drop i (slices_of t) ≡ view_of n r ∷ drop (i + 1) (slices_of t)
  pub here : (d : Slice) → get_or (slices_of t) i d ≡ view_of n r
  pub sized : length r ≡ record_size n

module _ (t : List ℕ) (i : ℕ) {k n : ℕ} {r : List ℕ}
    (e : k ≡ record_size (stride_of t)) (f : r ≡ record_at k i t) (s : n ≡ stride_of t) where
  pub turn_at : Whole t → i < count_of t → Turn t i n r
  turn_at whole below =
      let read = read_here t i e f s whole below in
      record {
        next = slices_at t i below whole ∙ ap (λ (d : Slice). d ∷ drop (i + 1) (slices_of t)) (sym read.seen);
        here = λ d. slice_at_lem t i d below whole ∙ sym read.seen;
        sized = read.sized;
      }

  pub sized_at : Whole t → i < count_of t → length r ≡ record_size n
  sized_at whole below = (turn_at whole below).sized

  -- a record that is there, as an anchor is: its size, a part, and its place
  pub anchor_at : (part : ℕ) → part < 10 → Stored t i → (length r ≡ record_size n) × ((part < 10) × (i < 256))
  anchor_at part few there = let read = read_here t i e f s there.whole there.below in (read.sized, (few, read.small))
