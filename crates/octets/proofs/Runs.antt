-- Laws of runs of bytes: a run is told by the number that it makes. Assumes nothing.
use Prim.Native.Nat.{ℕ, zero, suc, ◌+◌, ◌*◌, ◌-◌, ◌^◌, ◌/◌, ◌%◌, ◌≤◌, ◌<◌}
use mathlib.Core.Path.{◌≡◌, refl, sym, ◌∙◌, ap}
use mathlib.Core.List.{List, ◌++◌}
use mathlib.Core.Bool.{Bool, true, false, ◌&&◌, ◌||◌, and_assoc, and-true, and-false}
use native.Mathlib.Nat.{add-zero, zero-add, mul_assoc, mul-le-mul_right, pow-suc}
use native.Mathlib.Omega.{arith}
use lib.ListN.{length, take, drop, length-drop, take-append-drop}
use lib.Seq.{ext_get_or, get_or-drop, take_all}
use lib.Dec.{leb, ltb, eqb}
use lib.Pointwise.{pointwise, bytes_decides}
use borrow.Author.Tests.{le-leb, eq-eqb, ne_eqb, leb-true, eqb-true, eqb-false}
use Rattle.laws.proofs.Tests.{tests, iff, by-test, and_both}
use Rattle.octets.specs.Bytes.{byte_of, Bytes, digits, each, there, be_of, le_of, filled, same_bytes}
use Rattle.octets.proofs.Readers.{le_whole, digits_below}

-- ---- runs
-- one run and the next
pub each_join : (test : ℕ → Bool) (m n at : ℕ) → each test (m + n) at ≡ (each test m at && each test n (at + m))
each_join test m zero at = rw add-zero (sym (and-true (each test m at)))
each_join test m (suc n) at =
    let e : m + suc n ≡ suc (m + n) = omega arith in
    let f : at + (m + n) ≡ at + m + n = omega arith in
    rw (e, f, each_join test m n at, and_assoc)

-- the run from `at` to an end, after its first n places
module _ (test : ℕ → Bool) (n end at : ℕ) (h : at + n ≤ end) where
  part : each test (end - at) at ≡ (each test n at && each test (end - (at + n)) (at + n))
  part =
      let e : end - at ≡ n + (end - (at + n)) = omega arith in
      ap (λ (k : ℕ). each test k at) e ∙ each_join test n (end - (at + n)) at

  -- they pass
  pub run_on : each test n at ≡ true → each test (end - at) at ≡ each test (end - (at + n)) (at + n)
  run_on e = part ∙ rw e

  -- they do not
  pub run_off : each test n at ≡ false → each test (end - at) at ≡ false
  run_off e = part ∙ rw e

-- nothing is left
pub run_end : (test : ℕ → Bool) (end at : ℕ) → end ≤ at → each test (end - at) at ≡ true
run_end test end at h = let e : end - at ≡ 0 = omega arith in rw e

pub each-one : (test : ℕ → Bool) (at : ℕ) → each test 1 at ≡ test at
each-one test at = rw add-zero

-- a run that passes, at each of its places
pub each_at : (test : ℕ → Bool) (n at : ℕ) → each test n at ≡ true → (i : ℕ) → i < n → test (at + i) ≡ true
each_at test zero at h i l = absurd (omega arith)
each_at test (suc n) at h i l = go (eqb i n) refl (each_at test n at p.0 i)
  where
    p : (each test n at ≡ true) × (test (at + n) ≡ true)
    p = and_both (each test n at) (test (at + n)) h

    go : (b : Bool) → eqb i n ≡ b → (i < n → test (at + i) ≡ true) → test (at + i) ≡ true
    go true e before = rw (eqb-true i n e) p.1
    go false e before = before (omega (arith, eqb-false i n e))

-- a run passes where each of its places does
pub each_all : (test : ℕ → Bool) (n at : ℕ) → ((i : ℕ) → i < n → test (at + i) ≡ true) → each test n at ≡ true
each_all test zero at h = refl
each_all test (suc n) at h = rw (each_all test n at (λ i l. h i (omega arith)), h n (omega arith))

-- two runs whose places are tested alike
pub each_same : (test test' : ℕ → Bool) (n at : ℕ) → ((i : ℕ) → i < n → test (at + i) ≡ test' (at + i))
    → each test n at ≡ each test' n at
each_same test test' zero at h = refl
each_same test test' (suc n) at h = rw (each_same test test' n at (λ i l. h i (omega arith)), h n (omega arith))

-- ---- two numbers of n digits are equal where their digits are
pub two_digits : (a b x y : ℕ) → x < 256 → y < 256 → eqb (a * 256 + x) (b * 256 + y) ≡ (eqb a b && eqb x y)
two_digits a b x y hx hy = go (eqb a b) (eqb x y) refl refl
  where
    go : (p q : Bool) → eqb a b ≡ p → eqb x y ≡ q → eqb (a * 256 + x) (b * 256 + y) ≡ (p && q)
    go true true e f = omega (tests, eqb-true a b e, eqb-true x y f)
    go true false e f = omega (tests, eqb-true a b e, eqb-false x y f)
    go false true e f = omega (tests, eqb-false a b e)
    go false false e f = omega (tests, eqb-false a b e)

pub same_digits : (f g : ℕ → ℕ) → ((i : ℕ) → f i < 256) → ((i : ℕ) → g i < 256) → (n at : ℕ)
    → eqb (digits f n at) (digits g n at) ≡ each (λ i. eqb (f i) (g i)) n at
same_digits f g hf hg zero at = refl
same_digits f g hf hg (suc n) at =
    two_digits (digits f n at) (digits g n at) (f (at + n)) (g (at + n)) (hf (at + n)) (hg (at + n))
    ∙ rw (same_digits f g hf hg n at)

-- ---- eight bytes told by one number, the lowest byte first
-- n places from k behind `at` on, the last of them, m behind it, first
each_mirror : (test : ℕ → Bool) (k n m at : ℕ) → m + 1 ≡ k + n → each (λ i. test (at + (m - i))) n 0 ≡ each test n (at + k)
each_mirror test k n m at last = iff _ _ there_and back
  where
    there_and : each (λ i. test (at + (m - i))) n 0 ≡ true → each test n (at + k) ≡ true
    there_and h = each_all test n (at + k) (λ i l.
        let e : at + (m - (0 + (n - 1 - i))) ≡ at + k + i = omega arith in
        rw e at (each_at (λ i. test (at + (m - i))) n 0 h (n - 1 - i) (omega arith)))

    back : each test n (at + k) ≡ true → each (λ i. test (at + (m - i))) n 0 ≡ true
    back h = each_all (λ i. test (at + (m - i))) n 0 (λ i l.
        let e : at + k + (n - 1 - i) ≡ at + (m - (0 + i)) = omega arith in
        rw e at (each_at test n (at + k) h (n - 1 - i) (omega arith)))

-- the number of n digits and of k more behind them
pub digits_join : (f : ℕ → ℕ) (n k at : ℕ) → digits f (n + k) at ≡ digits f n at * 256 ^ k + digits f k (at + n)
digits_join f n zero at = rw (add-zero n) (omega arith)
digits_join f n (suc k) at =
    let e : n + suc k ≡ suc (n + k) = omega arith in
    let g : at + (n + k) ≡ at + n + k = omega arith in
    let up : digits f n at * 256 ^ suc k ≡ digits f n at * 256 ^ k * 256 =
    rw pow-suc (sym (mul_assoc (digits f n at) (256 ^ k) 256)) in
    rw (e, g) (omega (arith, digits_join f n k at))

zero_digits : (n at : ℕ) → digits (λ _. 0) n at ≡ 0
zero_digits zero at = refl
zero_digits (suc n) at = rw (zero_digits n at)

-- what is d times p and a rest lies below p where d is 0
below_is : (d p x : ℕ) → x < p → ltb (d * p + x) p ≡ eqb d 0
below_is d p x h =
    by-test (eqb d 0) (λ e. rw (e, eqb-true d 0 e) (omega tests))
    (λ e. let one : 1 ≤ d = omega (arith, eqb-false d 0 e) in
    let most : 1 * p ≤ d * p = mul-le-mul_right p one in
    rw e (omega tests))

module _ (s : List ℕ) (at : ℕ) (bytes : Bytes s) (h : at + 8 ≤ length s) where
  -- the byte at each place is that of f
  low : (f : ℕ → ℕ) → ((i : ℕ) → f i < 256)
      → each (λ i. eqb (byte_of s i) (f i)) 8 at ≡ eqb (le_of 8 s at) (digits (λ i. f (at + (7 - i))) 8 0)
  low f small =
      sym (rw (le_whole 8 s at h)
      (same_digits (λ i. byte_of s (at + (7 - i))) (λ i. f (at + (7 - i))) (λ i. bytes (at + (7 - i)))
      (λ i. small (at + (7 - i))) 8 0)
      ∙ each_mirror (λ j. eqb (byte_of s j) (f j)) 0 8 7 at refl
      ∙ ap (λ (k : ℕ). each (λ i. eqb (byte_of s i) (f i)) 8 k) (add-zero at))

  -- each byte is v
  pub low-is : (v : ℕ) → v < 256 → each (λ i. eqb (byte_of s i) v) 8 at ≡ eqb (le_of 8 s at) (digits (λ _. v) 8 0)
  low-is v small = low (λ _. v) (λ _. small)

  -- the bytes are those of another list
  pub low_same : (t : List ℕ) → Bytes t → at + 8 ≤ length t
      → each (λ i. eqb (byte_of s i) (byte_of t i)) 8 at ≡ eqb (le_of 8 s at) (le_of 8 t at)
  low_same t bytes' h' = rw (le_whole 8 t at h') (low (byte_of t) bytes')

  -- the last n of them are 0, from k behind on
  pub past : (k n : ℕ) → 8 ≡ k + n → ltb (le_of 8 s at) (256 ^ k) ≡ filled 0 n s (at + k)
  unfolding filled
  past k n e =
      let f : ℕ → ℕ = λ i. byte_of s (at + (7 - i)) in
      let eight : 8 ≡ n + k = omega arith in
      let split : le_of 8 s at ≡ digits f n 0 * 256 ^ k + digits f k (0 + n) = le_whole 8 s at h ∙ ap (λ (m : ℕ). digits f m 0) eight
      ∙ digits_join f n k 0 in
      ap (λ (x : ℕ). ltb x (256 ^ k)) split
      ∙ below_is (digits f n 0) (256 ^ k) (digits f k (0 + n)) (digits_below f (λ i. bytes (at + (7 - i))) k (0 + n))
      ∙ ap (eqb (digits f n 0)) (sym (zero_digits n 0))
      ∙ same_digits f (λ _. 0) (λ i. bytes (at + (7 - i))) (λ _. omega arith) n 0
      ∙ each_mirror (λ j. eqb (byte_of s j) 0) k n 7 at e
      ∙ rw (le-leb (at + k + n) (length s) (omega arith))

-- eight bytes that were found to be there, and whose number is r
pub filled_low : (v : ℕ) → v < 256 → (s : List ℕ) (at : ℕ) → Bytes s → (all : Bool) → all ≡ there 8 s at → all ≡ true
    → (r : ℕ) → r ≡ le_of 8 s at → eqb r (digits (λ _. v) 8 0) ≡ filled v 8 s at
unfolding filled
filled_low v small s at bytes all told held r is =
    let h : there 8 s at ≡ true = sym told ∙ held in
    rw (is, h) (sym (low-is s at bytes (leb-true _ _ h) v small))

-- n bytes that were found not to be there
pub filled_short : (v n : ℕ) (s : List ℕ) (at : ℕ) (all : Bool) → all ≡ there n s at → all ≡ false → false ≡ filled v n s at
unfolding filled
filled_short v n s at all told failed = rw (sym told ∙ failed)

-- all of a list
pub filled_whole : (v : ℕ) (s : List ℕ) → filled v (length s) s 0 ≡ each (λ i. eqb (byte_of s i) v) (length s) 0
unfolding filled
filled_whole v s = rw (le-leb (0 + length s) (length s) (omega arith))

-- one filled run and the next
pub filled_join : (v m n : ℕ) (s : List ℕ) (at : ℕ) → filled v (m + n) s at ≡ (filled v m s at && filled v n s (at + m))
unfolding filled
filled_join v m n s at = go (leb (at + m + n) (length s)) refl
  where
    e : at + (m + n) ≡ at + m + n
    e = omega arith

    go : (b : Bool) → leb (at + m + n) (length s) ≡ b → (leb (at + (m + n)) (length s) && each (λ i. eqb (byte_of s i) v) (m + n) at)
        ≡ ((leb (at + m) (length s) && each (λ i. eqb (byte_of s i) v) m at)
        && (leb (at + m + n) (length s) && each (λ i. eqb (byte_of s i) v) n (at + m)))
    go true h =
        rw (e, h, le-leb (at + m) (length s) (omega (arith, leb-true (at + m + n) (length s) h)))
        (each_join (λ i. eqb (byte_of s i) v) m n at)
    go false h = rw (e, h) (sym (and-false (leb (at + m) (length s) && each (λ i. eqb (byte_of s i) v) m at)))

-- ---- equal runs
pub same_bytes_lem : (a b : List ℕ) → same_bytes a b ≡ true → a ≡ b
unfolding same_bytes
same_bytes_lem a b h =
    let p = and_both (eqb (length a) (length b)) (each (λ i. eqb (byte_of a i) (byte_of b i)) (length a) 0) h in
    ext_get_or 0 a b (eqb-true _ _ p.0)
    (λ i l. eqb-true _ _ (rw zero-add at (each_at (λ i. eqb (byte_of a i) (byte_of b i)) (length a) 0 p.1 i l)))

pub bytes_same : (a b : List ℕ) → a ≡ b → same_bytes a b ≡ true
unfolding same_bytes
bytes_same a b e =
    rw (← e, eq-eqb (length a) (length a) refl)
    (each_all (λ i. eqb (byte_of a i) (byte_of a i)) (length a) 0 (λ i l. eq-eqb (byte_of a (0 + i)) (byte_of a (0 + i)) refl))

-- and so are bytes that are equal pair by pair
pub pairs_same : (a b : List ℕ) → pointwise eqb a b ≡ same_bytes a b
pairs_same a b =
    iff _ _ (λ e. bytes_same a b ((bytes_decides a b).0 e)) (λ e. (bytes_decides a b).1 (same_bytes_lem a b e))

-- and where they are so in front and behind
behind : (n : ℕ) (a : List ℕ) → take (length a - n) (drop n a) ≡ drop n a
behind n a = take_all (length a - n) (drop n a) (omega (arith, length-drop n a))

pub fronts_same : (n : ℕ) (a b : List ℕ) → pointwise eqb (take n a) (take n b) ≡ (same_bytes a b || pointwise eqb (take n a) (take n b))
fronts_same n a b =
    by-test (same_bytes a b)
    (λ e. rw e ((bytes_decides (take n a) (take n b)).1 (ap (take n) (same_bytes_lem a b e))))
    (λ e. rw e)

pub rests_same : (n : ℕ) (a b : List ℕ) → pointwise eqb (take n a) (take n b) ≡ true
    → pointwise eqb (take (length a - n) (drop n a)) (take (length b - n) (drop n b)) ≡ same_bytes a b
rests_same n a b f =
    let front : take n a ≡ take n b = (bytes_decides (take n a) (take n b)).0 f in
    iff _ _
    (λ e. let rest : drop n a ≡ drop n b =
    sym (behind n a) ∙ (bytes_decides (take (length a - n) (drop n a)) (take (length b - n) (drop n b))).0 e ∙ behind n b in
    bytes_same a b (sym (take-append-drop n a) ∙ (λ i. front i ++ rest i) ∙ take-append-drop n b))
    (λ e. (bytes_decides (take (length a - n) (drop n a)) (take (length b - n) (drop n b))).1
    (ap (λ (l : List ℕ). take (length l - n) (drop n l)) (same_bytes_lem a b e)))

-- lists that are not as long are not the same
pub lengths_differ : (a b : List ℕ) → (length a ≡ length b → ⊥) → same_bytes a b ≡ false
unfolding same_bytes
lengths_differ a b h = rw (ne_eqb (length a) (length b) h)

pub ruleset parts_same = (lengths_differ, fronts_same, rests_same)

-- ---- runs of a part
-- the n places from k + at on, of a list that starts at k
each_shift : (test test' : ℕ → Bool) (k : ℕ) → ((i : ℕ) → test i ≡ test' (k + i)) → (n at : ℕ)
    → each test n at ≡ each test' n (k + at)
each_shift test test' k same zero at = refl
each_shift test test' k same (suc n) at =
    let e : k + (at + n) ≡ k + at + n = omega arith in
    rw (each_shift test test' k same n at, same (at + n), e)

pub filled_drop : (v n : ℕ) (s : List ℕ) (k at : ℕ) → k ≤ length s → filled v n (drop k s) at ≡ filled v n s (k + at)
unfolding filled
filled_drop v n s k at h =
    let there-same : leb (at + n) (length (drop k s)) ≡ leb (k + at + n) (length s) =
    rw (length-drop k s) (iff (leb (at + n) (length s - k)) (leb (k + at + n) (length s)) (λ e. omega tests) (λ e. omega tests)) in
    rw there-same (ap (λ (b : Bool). leb (k + at + n) (length s) && b)
    (each_shift (λ i. eqb (byte_of (drop k s) i) v) (λ i. eqb (byte_of s i) v) k
    (λ i. ap (λ (x : ℕ). eqb x v) (get_or-drop k s i 0)) n at))

-- ---- a number of eight bytes, turned around
quot : (y b : ℕ) → b < 256 → (y * 256 + b) / 256 ≡ y
quot y b h = omega arith

rest : (y b : ℕ) → b < 256 → (y * 256 + b) % 256 ≡ b
rest y b h = omega arith

abbrev pub turn : ℕ → ℕ
turn a =
    a % 256 * 0x100_0000_0000_0000 + a / 256 % 256 * 0x1_0000_0000_0000 + a / 256 / 256 % 256 * 0x100_0000_0000
    + a / 256 / 256 / 256 % 256 * 0x1_0000_0000 + a / 256 / 256 / 256 / 256 % 256 * 0x100_0000
    + a / 256 / 256 / 256 / 256 / 256 % 256 * 0x1_0000 + a / 256 / 256 / 256 / 256 / 256 / 256 % 256 * 0x100
    + a / 256 / 256 / 256 / 256 / 256 / 256 / 256 % 256

turn_digits : (f : ℕ → ℕ) → ((i : ℕ) → f i < 256) → turn (digits (λ i. f (7 - i)) 8 0) ≡ digits f 8 0
turn_digits f h =
    rw (
      quot _ _ (h 0),
      rest _ _ (h 0),
      quot _ _ (h 1),
      rest _ _ (h 1),
      quot _ _ (h 2),
      rest _ _ (h 2),
      quot _ _ (h 3),
      rest _ _ (h 3),
      quot _ _ (h 4),
      rest _ _ (h 4),
      quot _ _ (h 5),
      rest _ _ (h 5),
      quot _ _ (h 6),
      rest _ _ (h 6),
      rest _ _ (h 7),
    ) (omega arith)

pub turn_told : (s : List ℕ) (at : ℕ) → Bytes s → turn (le_of 8 s at) ≡ be_of 8 s at
unfolding le_of be_of
turn_told s at bytes =
    by-test (there 8 s at) (λ e. rw e (turn_digits (λ i. byte_of s (at + i)) (λ i. bytes (at + i))))
    (λ e. rw e)
