-- A table with other records, and the bytes moved and written that make it one. Over the size of a record. Assumes nothing.
use Prim.Native.Nat.{ℕ, suc, ◌+◌, ◌*◌, ◌-◌, ◌/◌, ◌%◌, ◌≤◌, ◌<◌}
use mathlib.Core.Path.{◌≡◌, sym, ap, ◌∙◌}
use mathlib.Core.List.{List, ◌∷◌, ◌++◌, append_assoc}
use native.Mathlib.Nat.{add-mul, suc-mul}
use native.Mathlib.Omega.{arith}
use lib.ListN.{length, take, drop, length-append, length-take, length-drop, take-append-drop}
use lib.Seq.{drop-drop, drop-cons, take-add}
use Rattle.laws.specs.Lists.{pieces, joined, inserted_at, replaced_at}
use Rattle.laws.proofs.Lists.{length-pieces, take_past, drop_past, inserted_length, replaced_length}
use Rattle.laws.proofs.Pieces.{joined_append, joined_pieces, take_pieces, drop_pieces}
use Rattle.octets.specs.Bytes.{byte_of, Bytes}
use Rattle.octets.proofs.Readers.{be_whole}
use Rattle.octets.specs.Writing.{bytes_of, pasted, opened}
use Rattle.octets.proofs.Writing.{pasted_whole, pasted_opened}
use Rattle.table.specs.Header.{count_of, room_of, records_of, counting, written}
use Rattle.table.proofs.Records.{room_fits, record_fits}

regroup : (h a r m d : List ℕ) → (h ++ a) ++ (r ++ (m ++ d)) ≡ h ++ ((a ++ (r ++ m)) ++ d)
regroup h a r m d =
    append_assoc h a (r ++ (m ++ d))
    ∙ ap (λ (l : List ℕ). h ++ l) (sym (append_assoc a (r ++ m) d ∙ ap (λ (l : List ℕ). a ++ l) (append_assoc r m d)))

-- ---- the header
pub counting_length : (n : ℕ) (t : List ℕ) → 32 ≤ length t → length (counting n t) ≡ 32
counting_length n t h = simp (length-append, length-take, length-drop) (omega arith)

-- a count written into the header
pub counted : (n : ℕ) (t : List ℕ) → 32 ≤ length t → pasted t 6 (bytes_of 2 n) ≡ counting n t ++ drop 32 t
counted n t h =
    let split : drop 8 t ≡ take 24 (drop 8 t) ++ drop 32 t = sym (take-append-drop 24 (drop 8 t)) ∙ rw drop-drop in
    pasted_whole t (bytes_of 2 n) 6 (omega arith)
    ∙ ap (λ (l : List ℕ). take 6 t ++ (bytes_of 2 n ++ l)) split
    ∙ sym (append_assoc (take 6 t) (bytes_of 2 n ++ take 24 (drop 8 t)) (drop 32 t))

-- the header with the count that it has, where its elements are bytes
pub counting_same : (t : List ℕ) → 32 ≤ length t → Bytes t → counting (count_of t) t ≡ take 32 t
counting_same t h small =
    let e : count_of t ≡ (0 + byte_of t 6) * 256 + byte_of t 7 = be_whole 2 t 6 (omega arith) in
    let high : count_of t / 256 % 256 ≡ byte_of t 6 = omega (arith, small 6, small 7) in
    let low : count_of t % 256 ≡ byte_of t 7 = omega (arith, small 6, small 7) in
    rw (high, low)
    (sym (take-add 6 26 t
    ∙ ap (λ (l : List ℕ). take 6 t ++ take 26 l)
    (drop-cons t 6 0 (omega arith) ∙ ap (λ (l : List ℕ). byte_of t 6 ∷ l) (drop-cons t 7 0 (omega arith)))))

-- ---- records put in and replaced, among at + m of them
module _ (size at m : ℕ) (b r : List ℕ) where
  pub joined_inserted : joined (inserted_at at r (pieces size (at + m) b)) ≡ take (at * size) b
      ++ (r ++ take (m * size) (drop (at * size) b))
  joined_inserted =
      let e : at + m - at ≡ m = omega arith in
      joined_append size (take at (pieces size (at + m) b)) (r ∷ drop at (pieces size (at + m) b))
      ∙ rw (
        take_pieces size at (at + m) b (omega arith),
        drop_pieces size at (at + m) b
            (omega arith),
        e,
        joined_pieces size at b,
        joined_pieces size m (drop (at * size) b),
      )

  pub joined_replaced : joined (replaced_at at r (pieces size (at + suc m) b)) ≡ take (at * size) b
      ++ (r ++ take (m * size) (drop (at * size + size) b))
  joined_replaced =
      let e : at + suc m - suc at ≡ m = omega arith in
      let f : suc at * size ≡ at * size + size = omega (arith, suc-mul at size) in
      joined_append size (take at (pieces size (at + suc m) b)) (r ∷ drop (suc at) (pieces size (at + suc m) b))
      ∙ rw (
        take_pieces size at (at + suc m) b (omega arith),
        drop_pieces size (suc at) (at + suc m) b
            (omega arith),
        e,
        f,
        joined_pieces size at b,
        joined_pieces size m (drop (at * size + size) b),
      )

  -- their bytes
  pub inserted_bytes : length r ≡ size → (at + m) * size ≤ length b
      → length (joined (inserted_at at r (pieces size (at + m) b))) ≡ (at + m) * size + size
  inserted_bytes l h = rw joined_inserted (simp (length-append, length-take, length-drop) (omega (arith, add-mul at m size)))

module _ (size at m : ℕ) (t r : List ℕ) (l : length r ≡ size) (c : count_of t ≡ at + m)
    (fits : 32 + (at + m) * size + size ≤ length t) where
  abbrev b : List ℕ
  b = drop 32 t

  abbrev head : List ℕ
  head = counting (at + m + 1) t

  head_length : length head ≡ 32
  head_length = counting_length (at + m + 1) t (omega arith)

  -- the count, a gap and the record in it are the table with the record put in
  pub written_inserted : pasted (opened (pasted t 6 (bytes_of 2 (at + m + 1))) (32 + at * size) (32 + (at + m) * size) size)
      (32 + at * size) r
      ≡ written t (inserted_at at r (records_of size t))
  unfolding written records_of
  written_inserted =
      let wide : (at + m) * size ≡ at * size + m * size = add-mul at m size in
      let long : length (head ++ b) ≡ length t = length-append head b ∙ omega (arith, head_length, length-drop 32 t) in
      let up : 32 + (at + m) * size - (32 + at * size) ≡ m * size = omega arith in
      let far : 32 + (at + m) * size + size ≡ 32 + ((at + m) * size + size) = omega arith in
      let n : length (inserted_at at r (pieces size (at + m) b)) ≡ at + m + 1 =
      let long : length (pieces size (at + m) b) ≡ at + m = length-pieces size (at + m) b in
      inserted_length at r (pieces size (at + m) b) (omega arith) ∙ omega arith in
      rw (
        counted (at + m + 1) t (omega arith),
        c,
        n,
        inserted_bytes size at m b r l
            (rw (length-drop 32 t) (omega arith)),
        joined_inserted size at m b r,
      )
      (pasted_opened (head ++ b) r (32 + at * size) (32 + (at + m) * size) size l (omega arith) (omega arith)
      ∙ rw (
        take_past head b 32 (at * size) head_length,
        drop_past head b 32 (at * size) head_length,
        up,
        far,
        drop_past head b 32
            ((at + m) * size + size) head_length,
      )
      (regroup head (take (at * size) b) r (take (m * size) (drop (at * size) b)) (drop ((at + m) * size + size) b)
      ∙ rw (drop-drop ((at + m) * size + size) 32 t)))

module _ (size at m : ℕ) (t r : List ℕ) (l : length r ≡ size) (c : count_of t ≡ at + suc m)
    (fits : 32 + (at + suc m) * size ≤ length t) (small : Bytes t) where
  abbrev behind : List ℕ
  behind = drop 32 t

  -- the record over the one at its place is the table with the record in its stead
  pub written_replaced : pasted t (32 + at * size) r ≡ written t (replaced_at at r (records_of size t))
  unfolding written records_of
  written_replaced =
      let wide : (at + suc m) * size ≡ at * size + (size + m * size) = add-mul at (suc m) size ∙ omega (arith, suc-mul m size) in
      let n : length (replaced_at at r (pieces size (at + suc m) behind)) ≡ at + suc m =
      let long : length (pieces size (at + suc m) behind) ≡ at + suc m = length-pieces size (at + suc m) behind in
      replaced_length at r (pieces size (at + suc m) behind) (omega arith) ∙ omega arith in
      let same : counting (at + suc m) t ≡ take 32 t = ap (λ (k : ℕ). counting k t) (sym c) ∙ counting_same t (omega arith) small in
      let tail : List ℕ = drop (at * size + size) behind in
      let to : 32 + at * size + length r ≡ 32 + (at * size + size) = omega arith in
      let far : drop (32 + at * size + length r) t ≡ tail = ap (λ (k : ℕ). drop k t) to ∙ sym (drop-drop (at * size + size) 32 t) in
      let bytes : length (take (at * size) behind ++ (r ++ take (m * size) tail)) ≡ at * size + size + m * size =
      simp (length-append, length-take, length-drop) (omega arith) in
      let beyond : drop (32 + (at * size + size + m * size)) t ≡ drop (m * size) tail =
      sym (drop-drop (m * size) (at * size + size) behind ∙ drop-drop (at * size + size + m * size) 32 t) in
      rw (c, n, same, joined_replaced size at m behind r, bytes, beyond)
      (pasted_whole t r (32 + at * size) (omega arith)
      ∙ rw (take-add 32 (at * size) t, far)
      (ap (λ (l : List ℕ). (take 32 t ++ take (at * size) behind) ++ (r ++ l)) (sym (take-append-drop (m * size) tail))
      ∙ regroup (take 32 t) (take (at * size) behind) r (take (m * size) tail) (drop (m * size) tail)))

-- ---- the same in the numbers of the code
module _ (size at n : ℕ) (t r : List ℕ) (l : length r ≡ size) (c : n ≡ count_of t) where
  pub put_in : at ≤ n → n < room_of size t
      → pasted (opened (pasted t 6 (bytes_of 2 (n + 1))) (32 + at * size) (32 + n * size) size) (32 + at * size) r
      ≡ written t (inserted_at at r (records_of size t))
  put_in h room =
      let e : n ≡ at + (n - at) = omega arith in
      rw e (written_inserted size at (n - at) t r l (sym c ∙ e) (rw e at (record_fits size t n room)))

  pub put_over : at < n → n ≤ room_of size t → Bytes t → pasted t (32 + at * size) r ≡ written t (replaced_at at r (records_of size t))
  put_over h room small =
      let e : n ≡ at + suc (n - suc at) = omega arith in
      written_replaced size at (n - suc at) t r l (sym c ∙ e) (rw e at (room_fits size t n (omega arith) room)) small
