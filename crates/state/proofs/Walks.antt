-- One turn of a walk over a table's records: the record that stands there has its size, its place is small, and what is read by the
-- size that the table told is that record. Assumes nothing.
use Prim.Native.Nat.{ℕ, ◌+◌, ◌*◌, ◌≤◌, ◌<◌}
use mathlib.Core.Path.{◌≡◌, sym, ap, ◌∙◌}
use mathlib.Core.List.{List}
use native.Mathlib.Omega.{arith}
use lib.ListN.{length, drop, length-drop}
use lib.Seq.{length-take-le}
use borrow.Author.Tests.{lt-ltb}
use Rattle.slice.specs.Record.{record_size, view_of}
use Rattle.table.specs.Header.{count_of, stride_of, room_of, record_at}
use Rattle.table.proofs.Records.{record_fits, room_most}

module _ (t : List ℕ) (roomy : count_of t ≤ room_of (record_size (stride_of t)) t) where
  abbrev size : ℕ
  size = record_size (stride_of t)

  pub size_at : (i : ℕ) → i < count_of t → length (record_at size i t) ≡ size
  unfolding record_at
  size_at i h =
      let k : i < room_of size t = omega arith in
      let f : size ≤ length (drop (32 + i * size) t) = simp length-drop (omega (arith, record_fits size t i k)) in
      rw (lt-ltb i (room_of size t) k) (length-take-le size (drop (32 + i * size) t) f)

  pub place_most : (i : ℕ) → i < count_of t → i < 256
  place_most i h = omega (arith, room_most size t)

-- what was read is the record that stands at a place: it says the slice of that place, it has its size, and the place is small
pub record Read (t : List ℕ) (i n : ℕ) (r : List ℕ) : Type 0 where
  pub is : r ≡ record_at (record_size (stride_of t)) i t
  pub seen : view_of n r ≡ view_of (stride_of t) (record_at (record_size (stride_of t)) i t)
  pub sized : length r ≡ record_size n
  pub small : i < 256

-- it was read by a size, which is that of the table's records; and is looked at by a stride, which is the table's
module _ (t : List ℕ) (i : ℕ) {k : ℕ} {r : List ℕ} (e : k ≡ record_size (stride_of t)) (f : r ≡ record_at k i t) where
  pub read_by : r ≡ record_at (record_size (stride_of t)) i t
  read_by = f ∙ ap (λ (k : ℕ). record_at k i t) e

  pub read_here : {n : ℕ} → n ≡ stride_of t → count_of t ≤ room_of (record_size (stride_of t)) t → i < count_of t → Read t i n r
  read_here s roomy h = record {
    is = read_by;
    seen = ap (λ (n : ℕ). view_of n r) s ∙ ap (view_of (stride_of t)) read_by;
    sized = ap length read_by ∙ (size_at t roomy i h ∙ sym (ap record_size s));
    small = place_most t roomy i h;
  }
