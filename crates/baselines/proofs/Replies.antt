-- What a derivation returns is told apart by its numbers. Assumes nothing.
use Prim.Native.Nat.{ℕ}
use mathlib.Core.Path.{◌≡◌, refl}
use Rattle.std.specs.Prelude.{Result, Ok, Err}
use Rattle.slice.specs.Refusing.{told}
use Rattle.slice.specs.declared.refusal.Refusal.{Refusal}
use Rattle.slice.proofs.Replies.{read_back, reply_same, reply_tells}
use Rattle.baselines.specs.Deriving.{Derivation, derivation_reply}

derivation_back : (d : Derivation) → read_back (λ k n. n) (derivation_reply d) ≡ d
unfolding derivation_reply
derivation_back (Ok n) = refl
derivation_back (Err n) = refl

-- derivations whose numbers are the same are the same
pub derivation_same : (a b : Derivation) → derivation_reply a ≡ derivation_reply b → a ≡ b
derivation_same = reply_same derivation_reply (λ k n. n) derivation_back

pub derivation_told : (a b : Result ℕ Refusal) → derivation_reply (told a) ≡ derivation_reply (told b) → a ≡ b
derivation_told = reply_tells derivation_reply (λ k n. n) derivation_back
