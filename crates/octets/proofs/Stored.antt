-- Bytes as they stand in a list: its parts, and the numbers and runs that they are. Assumes nothing.
use Prim.Native.Nat.{ℕ, zero, suc, ◌+◌, ◌*◌, ◌/◌, ◌%◌, ◌≤◌, ◌<◌}
use mathlib.Core.Path.{◌≡◌, refl, sym, ap, ◌∙◌, subst}
use mathlib.Core.List.{List, [], ◌∷◌, ◌++◌}
use mathlib.Core.Bool.{true, false}
use mathlib.Core.Logic.{inl, inr}
use native.Mathlib.Omega.{arith}
use lib.ListN.{length, take, drop, replicate, length-drop, take-append-drop}
use lib.Seq.{drop-drop, get_or-drop}
use Rattle.std.proofs.lemmas.List.{get_or-replicate}
use lib.Pointwise.{pointwise, bytes_decides}
use lib.Dec.{eqb}
use borrow.Author.Tests.{eqb-true, eq-eqb, le-leb, lt-leb}
use Rattle.laws.specs.Lists.{pieces}
use Rattle.laws.specs.Keyed.{In}
use Rattle.laws.proofs.Tests.{and_both, iff}
use Rattle.octets.specs.Bytes.{byte_of, digits, each, there, be_of, filled, Bytes}
use Rattle.octets.specs.Writing.{bytes_of}
use Rattle.octets.proofs.Runs.{each_at, each_all, filled_short}
use Rattle.octets.proofs.Readers.{be_whole, taken}

-- ---- parts of a list of bytes
bytes_take : (n : ℕ) (l : List ℕ) → Bytes l → Bytes (take n l)
bytes_take zero l h i = omega arith
bytes_take (suc n) [] h i = h i
bytes_take (suc n) (x ∷ l) h zero = h 0
bytes_take (suc n) (x ∷ l) h (suc i) = bytes_take n l (λ j. h (suc j)) i

pub bytes_drop : (n : ℕ) (l : List ℕ) → Bytes l → Bytes (drop n l)
bytes_drop zero l h i = h i
bytes_drop (suc n) [] h i = h i
bytes_drop (suc n) (x ∷ l) h i = bytes_drop n l (λ j. h (suc j)) i

pub bytes_pieces : (size n : ℕ) (l r : List ℕ) → Bytes l → In r (pieces size n l) → Bytes r
bytes_pieces size zero l r h x'' = elim x'' [ ]
bytes_pieces size (suc n) l r h (inl e) = subst Bytes (sym e) (bytes_take size l h)
bytes_pieces size (suc n) l r h (inr m) = bytes_pieces size n (drop size l) r (bytes_drop size l h) m

-- ---- bytes from the numbers that they are
four_bytes : (l : List ℕ) → Bytes l → 4 ≤ length l → take 4 l ≡ bytes_of 4 (digits (byte_of l) 4 0)
four_bytes [] h k = absurd (omega arith)
four_bytes (a ∷ []) h k = absurd (omega arith)
four_bytes (a ∷ b ∷ []) h k = absurd (omega arith)
four_bytes (a ∷ b ∷ c ∷ []) h k = absurd (omega arith)
four_bytes (a ∷ b ∷ c ∷ d ∷ l) h k =
    let v = digits (byte_of (a ∷ b ∷ c ∷ d ∷ l)) 4 0 in
    let p : a < 256 = h 0 in
    let q : b < 256 = h 1 in
    let r : c < 256 = h 2 in
    let s : d < 256 = h 3 in
    let e : a ≡ v / 256 / 256 / 256 % 256 = omega arith in
    let f : b ≡ v / 256 / 256 % 256 = omega arith in
    let g : c ≡ v / 256 % 256 = omega arith in
    let m : d ≡ v % 256 = omega arith in
    λ i. e i ∷ f i ∷ g i ∷ m i ∷ []

pub number_bytes : (r : List ℕ) (at : ℕ) → Bytes r → at + 4 ≤ length r → take 4 (drop at r) ≡ bytes_of 4 (be_of 4 r at)
number_bytes r at h k =
    let g : (n : ℕ) → byte_of (drop at r) n ≡ byte_of r (at + n) = λ n. get_or-drop at r n 0 in
    four_bytes (drop at r) (bytes_drop at r h) (simp length-drop (omega arith))
    ∙ ap (bytes_of 4) ((λ i. (((0 * 256 + g 0 i) * 256 + g 1 i) * 256 + g 2 i) * 256 + g 3 i) ∙ sym (be_whole 4 r at k))

run_of : (v n : ℕ) (l : List ℕ) → n ≤ length l → ((i : ℕ) → i < n → byte_of l i ≡ v) → take n l ≡ replicate n v
run_of v zero l k h = refl
run_of v (suc n) [] k h = absurd (omega arith)
run_of v (suc n) (x ∷ l) k h = λ i. h 0 (omega arith) i ∷ run_of v n l (omega arith) (λ j m. h (suc j) (omega arith)) i

full_bytes : (v : ℕ) (r : List ℕ) (n at : ℕ) → filled v n r at ≡ true → at + n ≤ length r → take n (drop at r) ≡ replicate n v
unfolding filled
full_bytes v r n at e k =
    let y = (and_both (there n r at) (each (λ i. eqb (byte_of r i) v) n at) e).1 in
    run_of v n (drop at r) (simp length-drop (omega arith))
    (λ i h. get_or-drop at r i 0 ∙ eqb-true (byte_of r (at + i)) v (each_at (λ i. eqb (byte_of r i) v) n at y i h))

pub zero_bytes : (r : List ℕ) (n at : ℕ) → filled 0 n r at ≡ true → at + n ≤ length r → take n (drop at r) ≡ replicate n 0
zero_bytes = full_bytes 0

bytes_full : (v : ℕ) (r : List ℕ) (n at : ℕ) → at + n ≤ length r → take n (drop at r) ≡ replicate n v → filled v n r at ≡ true
unfolding filled
bytes_full v r n at k e =
    rw (le-leb _ _ k) (each_all (λ i. eqb (byte_of r i) v) n at
    (λ i l. eq-eqb (byte_of r (at + i)) v
    (sym (taken n r at i l) ∙ ap (λ (x : List ℕ). byte_of x i) e ∙ get_or-replicate n i v 0 l)))

-- n bytes that were looked up are compared with v
pub filled_not : (v n : ℕ) (r : List ℕ) (at : ℕ) → length r < at + n → filled v n r at ≡ false
filled_not v n r at h = sym (filled_short v n r at false (sym (lt-leb _ _ h)) refl)

pub filled_taken : (v n : ℕ) (r : List ℕ) (at : ℕ) → at + n ≤ length r
    → filled v n r at ≡ pointwise eqb (take n (drop at r)) (replicate n v)
filled_taken v n r at h =
    iff _ _
    (λ e. (bytes_decides (take n (drop at r)) (replicate n v)).1 (full_bytes v r n at e h))
    (λ e. bytes_full v r n at h ((bytes_decides (take n (drop at r)) (replicate n v)).0 e))

-- a run in front of what is behind it
pub cut : (n at : ℕ) (r x : List ℕ) → take n (drop at r) ≡ x → drop at r ≡ x ++ drop (at + n) r
cut n at r x e = sym (take-append-drop n (drop at r)) ∙ (λ i. e i ++ drop-drop n at r i)

-- bytes that are all alike make one number
pub digits_full : (r : List ℕ) (v n at : ℕ) → each (λ i. eqb (byte_of r i) v) n at ≡ true
    → digits (byte_of r) n at ≡ digits (λ _. v) n at
digits_full r v zero at h = refl
digits_full r v (suc n) at h =
    let (p, q) = and_both (each (λ i. eqb (byte_of r i) v) n at) (eqb (byte_of r (at + n)) v) h in
    rw (digits_full r v n at p, eqb-true (byte_of r (at + n)) v q)

-- ---- a number from its own bytes
pub two_back : (v : ℕ) → v < 65536 → (0 * 256 + v / 256 % 256) * 256 + v % 256 ≡ v
two_back v h = omega arith

pub four_back : (v : ℕ) → v < 4294967296
    → (((0 * 256 + v / 256 / 256 / 256 % 256) * 256 + v / 256 / 256 % 256) * 256 + v / 256 % 256) * 256 + v % 256 ≡ v
four_back v h = omega arith

-- four bytes of a number are those of its last 32 bits
pub bytes_round : (v : ℕ) → bytes_of 4 v ≡ bytes_of 4 (v % 4294967296)
bytes_round v =
    let a : v / 256 / 256 / 256 % 256 ≡ v % 4294967296 / 256 / 256 / 256 % 256 = omega arith in
    let b : v / 256 / 256 % 256 ≡ v % 4294967296 / 256 / 256 % 256 = omega arith in
    let c : v / 256 % 256 ≡ v % 4294967296 / 256 % 256 = omega arith in
    let d : v % 256 ≡ v % 4294967296 % 256 = omega arith in
    λ i. a i ∷ b i ∷ c i ∷ d i ∷ []
