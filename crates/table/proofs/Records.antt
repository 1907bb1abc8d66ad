-- The records of a table and its bytes, each from the other. Over the size of a record. Assumes nothing.
use Prim.Native.Nat.{ℕ, suc, ◌+◌, ◌*◌, ◌-◌, ◌/◌, ◌≤◌, ◌<◌}
use mathlib.Core.Path.{◌≡◌, sym, ◌∙◌, subst}
use mathlib.Core.List.{List, [], ◌∷◌}
use native.Mathlib.Nat.{div-mul-le_self, pos_of_div-pos, mul-le-mul_right, suc-mul}
use native.Mathlib.Numerals.{add-one}
use native.Mathlib.Omega.{arith}
use lib.ListN.{length, drop, get_or, drop_of_length-le}
use lib.Seq.{drop-drop, drop-cons}
use borrow.Author.Tests.{lt-ltb}
use Rattle.laws.specs.Keyed.{In}
use Rattle.laws.proofs.Lists.{length-pieces, get_or_in}
use Rattle.laws.proofs.Pieces.{piece_at}
use Rattle.table.specs.Header.{count_of, room_of, records_of, record_at}

module _ (size : ℕ) (t : List ℕ) where
  -- the records that a table has room for lie within it
  pub room_fits : (n : ℕ) → 0 < n → n ≤ room_of size t → 32 + n * size ≤ length t
  unfolding room_of
  room_fits n some h =
      let q : n ≤ (length t - 32) / size = omega arith in
      let r : 0 < length t - 32 = pos_of_div-pos size (omega arith) in
      omega (arith, div-mul-le_self (length t - 32) size, mul-le-mul_right size q)

  pub room_most : room_of size t ≤ 256
  unfolding room_of
  room_most = omega arith

  -- and so does each of them
  pub record_fits : (i : ℕ) → i < room_of size t → 32 + i * size + size ≤ length t
  record_fits i h = omega (arith, room_fits (suc i) (omega arith) h, suc-mul i size)

  pub records_length : length (records_of size t) ≡ count_of t
  unfolding records_of
  records_length = length-pieces size (count_of t) (drop 32 t)

  -- record i is the part of the table at its place
  pub record_is : (i : ℕ) → i < count_of t → count_of t ≤ room_of size t → record_at size i t ≡ get_or (records_of size t) i []
  unfolding record_at records_of
  record_is i h r = rw (lt-ltb i (room_of size t) (omega arith)) (sym (piece_at size (count_of t) (drop 32 t) [] i h ∙ rw drop-drop))

  pub record_in : (i : ℕ) → i < count_of t → count_of t ≤ room_of size t → In (record_at size i t) (records_of size t)
  record_in i h r =
      subst (λ x. In x (records_of size t)) (sym (record_is i h r)) (get_or_in (records_of size t) i [] (omega (arith, records_length)))

  -- what a walk that has come to record i has before it
  pub rest_at : (i : ℕ) → i < count_of t → count_of t ≤ room_of size t
      → drop i (records_of size t) ≡ record_at size i t ∷ drop (i + 1) (records_of size t)
  rest_at i h r =
      rw (record_is i h r, add-one i) (drop-cons (records_of size t) i [] (omega (arith, records_length)))

  pub rest_end : (i : ℕ) → count_of t ≤ i → drop i (records_of size t) ≡ []
  rest_end i h = let l : length (records_of size t) ≤ i = omega (arith, records_length) in drop_of_length-le (records_of size t) l
