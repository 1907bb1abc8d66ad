-- A row asks of the bytes what its limits ask of the three numbers that they make, whatever the row. Assumes nothing.
use Prim.Native.Nat.{ℕ, zero, suc, ◌+◌, ◌*◌, ◌-◌, ◌^◌, ◌/◌, ◌%◌, ◌≤◌, ◌<◌}
use mathlib.Core.Path.{◌≡◌, refl, sym, ◌∙◌, ap}
use mathlib.Core.List.{List}
use mathlib.Core.Bool.{Bool, true, ◌&&◌, and_assoc}
use native.Mathlib.Omega.{arith}
use lib.ListN.{length, get_or}
use lib.Dec.{leb, ltb}
use borrow.Author.Tests.{leb-true, le-leb, lt-ltb, le-ltb, ltb-true, ltb-false}
use Rattle.laws.proofs.Tests.{tests, iff, by-test, and_both}
use Rattle.octets.specs.Bytes.{byte_of, Bytes, digits, le_of, filled}
use Rattle.octets.proofs.Readers.{le_whole, digits_below}
use Rattle.octets.proofs.Runs.{past, filled_join}
use Rattle.property.specs.Layout.{unused}
use Rattle.property.specs.Forms.{row_for, keeps}
use Rattle.property.specs.Limits.{most_of, later_of, limits_of, all_limits, limits_for, fits_of}
use Rattle.property.specs.declared.Row.{Row}
use Rattle.property.specs.declared.Limits.{Limits}

-- ---- numbers of bytes
up_to : (x k : ℕ) → 0 < k → leb x (k - 1) ≡ ltb x k
up_to x k h = iff _ _ (λ e. omega tests) (λ e. omega tests)

some_most : (k : ℕ) → 0 < 256 ^ k
some_most k = omega (arith, digits_below (λ _. 0) (λ _. omega arith) k 0)

-- the greatest number by a shift, of 64 bits
pub most_shifted : (n : ℕ) → n < 8 → 1 * 2 ^ (8 * n) % 2 ^ 64 - 1 ≡ most_of n
most_shifted zero l = refl
most_shifted (suc zero) l = refl
most_shifted (suc (suc zero)) l = refl
most_shifted (suc (suc (suc zero))) l = refl
most_shifted (suc (suc (suc (suc zero)))) l = refl
most_shifted (suc (suc (suc (suc (suc zero))))) l = refl
most_shifted (suc (suc (suc (suc (suc (suc zero)))))) l = refl
most_shifted (suc (suc (suc (suc (suc (suc (suc zero))))))) l = refl
most_shifted (suc (suc (suc (suc (suc (suc (suc (suc n)))))))) l = absurd (omega arith)

most_up_to_8 : (k : ℕ) → k ≤ 8 → most_of k ≡ 256 ^ k - 1
most_up_to_8 k h =
    by-test (ltb k 8) (λ e. rw e)
    (λ e. let q : 8 ≡ k = omega (arith, ltb-false k 8 e) in rw e (ap (λ (n : ℕ). 256 ^ n - 1) q))

most_from_8 : (k : ℕ) → 8 ≤ k → most_of k ≡ 256 ^ 8 - 1
most_from_8 k h = rw (le-ltb k 8 h)

-- the detail and six bytes behind it, in the number of eight bytes
range : (r d f least greatest : ℕ) → d < 256 → f < 256 → greatest < 256
    → (leb least (((r * 256 + d) * 256 + f) / 256) && leb (((r * 256 + d) * 256 + f) / 256) greatest)
    ≡ (ltb ((r * 256 + d) * 256 + f) 65536 && (leb least d && leb d greatest))
range r d f least greatest hd hf hg =
    let q : ((r * 256 + d) * 256 + f) / 256 ≡ r * 256 + d = omega arith in
    rw q (iff _ _
    (λ e. let x = and_both (leb least (r * 256 + d)) (leb (r * 256 + d) greatest) e in
    let low = leb-true least (r * 256 + d) x.0 in
    let up = leb-true (r * 256 + d) greatest x.1 in
    let none : r ≡ 0 = omega arith in
    rw (lt-ltb ((r * 256 + d) * 256 + f) 65536 (omega arith), le-leb least d (omega arith), le-leb d greatest (omega arith)))
    (λ e. let x = and_both (ltb ((r * 256 + d) * 256 + f) 65536) (leb least d && leb d greatest) e in
    let y = and_both (leb least d) (leb d greatest) x.1 in
    let small = ltb-true ((r * 256 + d) * 256 + f) 65536 x.0 in
    let low = leb-true least d y.0 in
    let up = leb-true d greatest y.1 in
    rw (le-leb least (r * 256 + d) (omega arith), le-leb (r * 256 + d) greatest (omega arith))))

-- the rows of the table are rows of bytes and of sixteen at most
in_table : (form : ℕ) → form < 6 → ((row_for form).1 < 256) × ((row_for form).2 ≤ 16)
in_table zero l = (omega arith, omega arith)
in_table (suc zero) l = (omega arith, omega arith)
in_table (suc (suc zero)) l = (omega arith, omega arith)
in_table (suc (suc (suc zero))) l = (omega arith, omega arith)
in_table (suc (suc (suc (suc zero)))) l = (omega arith, omega arith)
in_table (suc (suc (suc (suc (suc zero))))) l = (omega arith, omega arith)
in_table (suc (suc (suc (suc (suc (suc f)))))) l = absurd (omega arith)

module _ (p : List ℕ) (bytes : Bytes p) (h : length p ≡ 24) where
  -- ---- the first eight bytes
  abbrev later : ℕ
  later = digits (λ i. byte_of p (0 + (7 - i))) 6 0

  head_is : le_of 8 p 0 ≡ (later * 256 + byte_of p 1) * 256 + byte_of p 0
  head_is = le_whole 8 p 0 (omega (arith, h))

  spare : ltb (le_of 8 p 0) 65536 ≡ unused 2 7 p
  spare = past p 0 bytes (omega (arith, h)) 2 6 refl

  detail : (least greatest : ℕ) → greatest < 256
      → (leb least (le_of 8 p 0 / 256) && leb (le_of 8 p 0 / 256) greatest)
      ≡ (unused 2 7 p && (leb least (byte_of p 1) && leb (byte_of p 1) greatest))
  detail least greatest hg =
      ap (λ (x : ℕ). leb least (x / 256) && leb (x / 256) greatest) head_is
      ∙ range later (byte_of p 1) (byte_of p 0) least greatest (bytes 1) (bytes 0) hg
      ∙ ap (λ (b : Bool). b && (leb least (byte_of p 1) && leb (byte_of p 1) greatest))
      (ap (λ (x : ℕ). ltb x 65536) (sym head_is) ∙ spare)

  -- ---- the content
  -- of eight bytes k are used
  used : (at k : ℕ) → at + 8 ≤ 24 → k ≤ 8 → leb (le_of 8 p at) (256 ^ k - 1) ≡ filled 0 (8 - k) p (at + k)
  used at k l e = up_to (le_of 8 p at) (256 ^ k) (some_most k) ∙ past p at bytes (omega (arith, h)) k (8 - k) (omega arith)

  -- no byte is left
  none_left : (at : ℕ) → at ≤ 24 → filled 0 0 p at ≡ true
  unfolding filled
  none_left at l = rw (le-leb (at + 0) (length p) (omega (arith, h)))

  -- of sixteen bytes n are used
  content : (n : ℕ) → n ≤ 16 → (leb (le_of 8 p 8) (most_of n) && leb (le_of 8 p 16) (most_of (later_of n))) ≡ unused (8 + n) 23 p
  content n l = by-test (ltb n 8) (λ e. few (ltb-true n 8 e)) (λ e. many (ltb-false n 8 e))
    where
      few : n < 8 → (leb (le_of 8 p 8) (most_of n) && leb (le_of 8 p 16) (most_of (n - 8))) ≡ unused (8 + n) 23 p
      few s =
          let none : n - 8 ≡ 0 = omega arith in
          let place : 8 + n + (8 - n) ≡ 16 = omega arith in
          let all : 8 - n + 8 ≡ 23 + 1 - (8 + n) = omega arith in
          rw (none, most_up_to_8 n (omega arith), used 8 n (omega arith) (omega arith), used 16 0 (omega arith) (omega arith))
          (sym (ap (λ (k : ℕ). filled 0 k p (8 + n)) (sym all) ∙ filled_join 0 (8 - n) 8 p (8 + n) ∙ rw place))

      many : 8 ≤ n → (leb (le_of 8 p 8) (most_of n) && leb (le_of 8 p 16) (most_of (n - 8))) ≡ unused (8 + n) 23 p
      many s =
          let place : 16 + (n - 8) ≡ 8 + n = omega arith in
          let all : 8 - (n - 8) ≡ 23 + 1 - (8 + n) = omega arith in
          rw (
            most_from_8 n s,
            used 8 8 (omega arith) (omega arith),
            none_left 16 (omega arith),
            most_up_to_8 (n - 8) (omega arith),
            used 16 (n - 8) (omega arith) (omega arith),
            place,
            all,
          )

  -- ---- a row
  pub row_fits : (r : Row) → r.1 < 256 → r.2 ≤ 16 → fits_of (limits_of r) (le_of 8 p 0) (le_of 8 p 8) (le_of 8 p 16) ≡ keeps r p
  unfolding fits_of keeps
  row_fits r small short =
      sym (and_assoc (leb r.0 (le_of 8 p 0 / 256)) (leb (le_of 8 p 0 / 256) r.1) _)
      ∙ rw (detail r.0 r.1 small, content r.2 short)
      (and_assoc (unused 2 7 p) (leb r.0 (byte_of p 1) && leb (byte_of p 1) r.1) (unused (8 + r.2) 23 p))

  -- the row of a form
  pub form_fits : (form : ℕ) → form < 6 → fits_of (limits_for form) (le_of 8 p 0) (le_of 8 p 8) (le_of 8 p 16) ≡ keeps (row_for form) p
  unfolding limits_for
  form_fits form l = row_fits (row_for form) (in_table form l).0 (in_table form l).1

-- the limits of every row, one row's
pub limits_at : (d : Limits) (form : ℕ) → form < 6 → get_or all_limits form d ≡ limits_for form
unfolding limits_for
limits_at d zero l = refl
limits_at d (suc zero) l = refl
limits_at d (suc (suc zero)) l = refl
limits_at d (suc (suc (suc zero))) l = refl
limits_at d (suc (suc (suc (suc zero)))) l = refl
limits_at d (suc (suc (suc (suc (suc zero))))) l = refl
limits_at d (suc (suc (suc (suc (suc (suc f)))))) l = absurd (omega arith)
