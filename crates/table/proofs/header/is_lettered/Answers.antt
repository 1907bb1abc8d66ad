-- `table::header::is_lettered` meets its contract: the first three bytes are the letters. Assumes nothing.
use Prim.Native.Nat.{ℕ}
use mathlib.Core.Path.{◌≡◌, refl, sym, ◌∙◌}
use mathlib.Core.List.{List, [], ◌∷◌}
use lib.Dec.{eqb}
use borrow.Author.Tests.{eqb-true, eq-eqb}
use Rattle.std.specs.List.{starts_with}
use Rattle.std.proofs.Math.Bool.{and-true}
use Rattle.laws.proofs.Tests.{iff}
use Rattle.table.specs.Header.{lettered}
use Rattle.table.proofs.header.is_lettered.Goals as goal

flip : (a b : ℕ) → eqb a b ≡ eqb b a
flip a b = iff _ _ (λ e. eq-eqb b a (sym (eqb-true a b e))) (λ e. eq-eqb a b (sym (eqb-true b a e)))

letters : (t : List ℕ) → starts_with eqb t (84 ∷ 83 ∷ 76 ∷ []) ≡ lettered t
unfolding lettered
letters [] = refl
letters (a ∷ []) = rw (flip 84 a)
letters (a ∷ b ∷ []) = rw (flip 84 a, flip 83 b)
letters (a ∷ b ∷ c ∷ t) = rw (flip 84 a, flip 83 b, flip 76 c, and-true)

pub returns : goal.returns
returns c = c.starts_with.ensures.value ∙ letters c.args.table.now
