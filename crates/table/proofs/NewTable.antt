-- The new table, written part by part. Assumes nothing.
use Prim.Native.Nat.{ℕ, ◌+◌, ◌≤◌}
use mathlib.Core.Path.{◌≡◌, refl, ap, ◌∙◌}
use mathlib.Core.List.{List, [], ◌∷◌, ◌++◌}
use mathlib.Core.Bool.{true}
use native.Mathlib.Omega.{arith}
use lib.ListN.{length, drop, replicate, length-append}
use borrow.Author.Tests.{le-ltb, ltb-false, not-false}
use Rattle.laws.proofs.Refusals.{given_passed}
use Rattle.octets.specs.Writing.{pasted}
use Rattle.octets.proofs.Writing.{pasted_whole, pasted_then}
use Rattle.table.specs.Header.{header_of}
use Rattle.table.specs.Rules.{takes}
use Rattle.table.specs.Arriving.{creation_refused, creation_tests, creation_of}
use Rattle.table.specs.declared.check.Sides.TheVariants.{Both}
use Rattle.std.specs.Prelude.{Ok}

module _ (t : List ℕ) (side : ℕ) where
  module _ (h : 32 ≤ length t) where
    pub made : takes Both side ≡ true → creation_of t side ≡ Ok tt
    unfolding creation_of creation_tests
    made e = rw (le-ltb (length t) 32 h, e)

    abbrev front : List ℕ
    front = 84 ∷ 83 ∷ 76 ∷ side ∷ 0 ∷ 1 ∷ 0 ∷ 0 ∷ []

    -- three parts, one behind the other, are the header
    pub header_written : (feature : List ℕ) → length feature ≡ 16
        → pasted (pasted (pasted t 0 front) 8 feature) 24 (replicate 8 0) ≡ header_of side feature 0 ++ drop 32 t
    header_written feature l =
        let both : length (front ++ feature) ≡ 24 = length-append front feature ∙ omega arith in
        let all : length ((front ++ feature) ++ replicate 8 0) ≡ 32 =
        length-append (front ++ feature) (replicate 8 0) ∙ omega arith in
        let end : 0 + length ((front ++ feature) ++ replicate 8 0) ≡ 32 = omega arith in
        ap (λ (d : List ℕ). pasted d 24 (replicate 8 0)) (pasted_then t front feature 0 8 refl (omega arith))
        ∙ pasted_then t (front ++ feature) (replicate 8 0) 0 24 (omega arith) (omega arith)
        ∙ pasted_whole t ((front ++ feature) ++ replicate 8 0) 0 (omega arith)
        ∙ ap (λ (n : ℕ). ((front ++ feature) ++ replicate 8 0) ++ drop n t) end

-- what a table that was made tells
made_apart : (n : ℕ) → creation_refused n ≡ Ok tt → ⊥
made_apart n e = let z : ◌≡◌ {A = ℕ} 0 1 = cc in omega arith

pub made_facts : (t : List ℕ) (side : ℕ) → creation_of t side ≡ Ok tt → (32 ≤ length t) × (takes Both side ≡ true)
unfolding creation_of creation_tests
made_facts t side e =
    let p = given_passed creation_refused (Ok tt) made_apart (creation_tests t side) e in
    (ltb-false _ _ p.0, not-false _ p.1.0)
