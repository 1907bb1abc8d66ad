-- `text::listing::put_said` meets its contract: the one test, and what is said from the front on. Assumes nothing.
use Prim.Native.Nat.{ℕ}
use mathlib.Core.Path.{refl, sym, ap, ◌∙◌}
use mathlib.Core.List.{◌++◌}
use native.Mathlib.Nat.{zero-add}
use native.Mathlib.Omega.{arith}
use lib.ListN.{length, drop}
use borrow.Author.Tests.{lt-ltb, le-ltb}
use Rattle.octets.proofs.Writing.{pasted_whole}
use Rattle.text.specs.Listing.{put_of}
use Rattle.text.proofs.listing.put_said.Goals as goal

pub returns-then-text-said : goal.returns-then-text-said
unfolding put_of
returns-then-text-said c = record { answer = sym (rw (lt-ltb _ _ c.if-text-said.true)); buffer = refl }

pub returns : goal.returns
unfolding put_of
returns c =
    let a = c.args in record {
      answer = sym (rw (le-ltb _ _ c.if-text-said.false));
      buffer = c.put.ensures ∙ pasted_whole a.text.now a.said.now 0 (omega arith)
          ∙ ap (λ (n : ℕ). a.said.now ++ drop n a.text.now) (zero-add (length a.said.now));
    }
