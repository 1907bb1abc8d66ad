-- `octets::writers::put` meets its contract. The loop's invariant: the first i bytes are written. Assumes nothing.
use mathlib.Core.Path.{refl, sym, ◌∙◌}
use native.Mathlib.Omega.{arith}
use lib.ListN.{length-set}
use borrow.Author.Tests.{leb-true}
use Rattle.octets.proofs.Writing.{copying_none, copying_turn, copying_all, put_not}
use Rattle.octets.proofs.writers.put.Goals as goal

pub loop-i-init : goal.loop-i-init
loop-i-init c = (leb-true _ _ (sym c.has.ensures ∙ c.if-has.true), copying_none _ _ _, refl)

pub loop-i-preserved : goal.loop-i-preserved
loop-i-preserved c =
    let t = c.loop-i in (
      t.invariant.0,
      copying_turn _ _ _ _ _ c.loop-i-test.true t.invariant.0 t.invariant.1,
      length-set _ _ _ ∙ t.invariant.2,
    )

pub returns-after-loop-i : goal.returns-after-loop-i
returns-after-loop-i c =
    let t = c.loop-i in
    copying_all _ _ _ _ _ t.invariant.1 (omega arith) t.invariant.0

pub returns-else-has : goal.returns-else-has
returns-else-has c = put_not _ _ _ _ c.has.ensures c.if-has.false
