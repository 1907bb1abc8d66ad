-- How long a listing can be. Assumes nothing.
use Prim.Native.Nat.{ℕ, zero, suc, ◌+◌, ◌*◌, ◌/◌, ◌%◌, ◌≤◌}
use mathlib.Core.Path.{◌≡◌, refl, ◌∙◌}
use mathlib.Core.List.{List, [], ◌∷◌, ◌++◌, map}
use native.Mathlib.Omega.{arith}
use lib.ListN.{length, drop, length-append, length-map, replicate}
use lib.Dec.{ltb}
use Rattle.laws.specs.Lists.{joined}
use Rattle.laws.proofs.Tests.{pick_ind}
use Rattle.laws.proofs.Lists.{length-pieces}
use Rattle.numbers.specs.Numbers.{is_none}
use Rattle.numbers.specs.declared.Instant.{Instant}
use Rattle.property.specs.Eight.{properties_of}
use Rattle.slice.specs.Record.{sequence_of, period_of, parts_of}
use Rattle.table.specs.Header.{stride_of}
use Rattle.baselines.specs.Deriving.{derived_records, derivation_of}
use Rattle.baselines.specs.Deriving.{Derivation}
use Rattle.std.specs.Prelude.{Ok, Err}
use Rattle.baselines.proofs.DerivedTable.{derived_told}
use Rattle.text.specs.Listing.{digits_of, decimal_of, end_of, form_of, line_of, text_of, listing_of, put_of}
use Rattle.text.specs.Listing.{Listing}

digits_most : (k n : ℕ) → length (digits_of k n) ≤ k
digits_most zero n = omega arith
digits_most (suc k) n =
    pick_ind (λ (l : List ℕ). length l ≤ suc k) (ltb n 10) (λ _. omega arith)
    (λ _. omega (arith, length-append (digits_of k (n / 10)) ((48 + n % 10) ∷ []), digits_most k (n / 10)))

decimal_most : (n : ℕ) → length (decimal_of n) ≤ 10
unfolding decimal_of
decimal_most n = digits_most 10 n

end_most : (e : Instant) → length (end_of e) ≤ 10
unfolding end_of
end_most e = pick_ind (λ (l : List ℕ). length l ≤ 10) (is_none e) (λ _. omega arith) (λ _. decimal_most e.0)

line_most : (stride : ℕ) (r : List ℕ) → length (line_of stride r) ≤ 42
unfolding line_of properties_of
line_most stride r =
    let a = decimal_of (sequence_of r).0 in
    let b = decimal_of (period_of r).begin.0 in
    let c = end_of (period_of r).end in
    let f = map form_of (parts_of stride r) in
    let eight : length f ≡ 8 = length-map (parts_of stride r) form_of ∙ length-pieces stride 8 (drop 32 r) in
    omega (
      arith,
      length-append a (32 ∷ b ++ (32 ∷ c ++ (32 ∷ f ++ (10 ∷ [])))),
      length-append b
          (32 ∷ c ++ (32 ∷ f ++ (10 ∷ []))),
      length-append c (32 ∷ f ++ (10 ∷ [])),
      length-append f (10 ∷ []),
      eight,
      decimal_most
          (sequence_of r).0,
      decimal_most (period_of r).begin.0,
      end_most (period_of r).end,
    )

lines_most : (stride : ℕ) (rs : List (List ℕ)) → length (joined (map (line_of stride) rs)) ≤ 42 * length rs
lines_most stride [] = omega arith
lines_most stride (r ∷ rs) =
    omega (arith, length-append (line_of stride r) (joined (map (line_of stride) rs)), line_most stride r, lines_most stride rs)

-- 256 lines, and the one before them
pub listing_most : (p : List ℕ) → length (listing_of p) ≤ 10771
unfolding listing_of
listing_most p = go (derivation_of p (replicate 57376 0)) refl
  where
    go : (d : Derivation) → derivation_of p (replicate 57376 0) ≡ d → length (text_of d (stride_of p) (derived_records p)) ≤ 10771
    go (Ok n) e =
        let lines = joined (map (line_of (stride_of p)) (derived_records p)) in
        omega (
          arith,
          length-append (decimal_of n) (10 ∷ lines),
          decimal_most n,
          lines_most (stride_of p)
              (derived_records p),
          (derived_told p (replicate 57376 0) n e).few,
        )
    go (Err f) e = omega (arith, length-append (decimal_of f) (10 ∷ []), decimal_most f)

-- what putting a text answers is its length
abbrev pub length_in : Listing → ℕ
length_in (Ok n) = n
length_in (Err n) = n.0

pub put_length : (text buffer : List ℕ) → length_in (put_of text buffer) ≡ length text
unfolding put_of
put_length text buffer =
    pick_ind (λ (l : Listing). length_in l ≡ length text) (ltb (length buffer) (length text)) (λ _. refl) (λ _. refl)
