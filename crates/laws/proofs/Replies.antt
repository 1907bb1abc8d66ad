-- Replies: a refusal has one number and is never accepted, and a definition by cases loses nothing. Assumes nothing.
use Prim.Native.Nat.{ℕ}
use mathlib.Core.Path.{◌≡◌, sym, ap, ◌∙◌, subst}
use Rattle.laws.specs.Replies.{Reply, refused_with, accepted_as, refusal_number}

abbrev Refusing : Reply → Type 0
Refusing (refused_with n) = Unit {0}
Refusing (accepted_as k v) = ⊥

-- refusals differ by their numbers
pub refusal_tells : (m n : ℕ) → refused_with m ≡ refused_with n → m ≡ n
refusal_tells m n e = ap refusal_number e

-- what is refused is not accepted
pub refusal_apart : (n k v : ℕ) → refused_with n ≡ accepted_as k v → ⊥
refusal_apart n k v e = subst (λ r. Refusing r) e tt

-- numbers from which every answer is read back lose nothing
pub lossless : {A N : Type 0} (numbers : A → N) (back : N → A) → ((a : A) → back (numbers a) ≡ a)
    → (a b : A) → numbers a ≡ numbers b → a ≡ b
lossless numbers back reads a b e = sym (reads a) ∙ ap back e ∙ reads b
