-- `octets::writers::open_gap` meets its contract. The loop's invariant: the bytes from i up are moved. Assumes nothing.
use mathlib.Core.Path.{◌≡◌, refl, sym, ◌∙◌}
use native.Mathlib.Omega.{arith}
use lib.ListN.{length-set}
use borrow.Author.Tests.{leb-true}
use Rattle.octets.proofs.Writing.{opened_none, opened_turn}
use Rattle.octets.proofs.writers.open_gap.Goals as goal

pub loop-i-init : goal.loop-i-init
loop-i-init c =
    let fits = leb-true _ _ (sym c.has.ensures ∙ c.if-has.true) in
    (omega arith, fits, opened_none _ _ _ fits, refl)

pub loop-i-preserved : goal.loop-i-preserved
loop-i-preserved c =
    let t = c.loop-i in (
      omega arith,
      t.invariant.1,
      opened_turn _ _ _ t.invariant.1 _ _ (omega arith) (omega arith) t.invariant.2,
      length-set _ _ _ ∙ t.invariant.3,
    )

pub returns-after-loop-i : goal.returns-after-loop-i
returns-after-loop-i c =
    let t = c.loop-i in
    let done : t.i ≡ c.args.from = omega arith in
    rw (← done) t.invariant.2
