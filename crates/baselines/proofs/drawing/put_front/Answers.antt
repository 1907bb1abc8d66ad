-- `baselines::drawing::put_front` meets its contract: four parts, one behind the other. Assumes nothing.
use mathlib.Core.Path.{refl}
use native.Mathlib.Omega.{arith}
use Rattle.state.proofs.Pasting.{pasted_on}
use Rattle.baselines.proofs.drawing.put_front.Goals as goal

pub returns : goal.returns
returns c =
    pasted_on _ _ _ 0 12
    (pasted_on _ _ _ 0 8 (pasted_on _ _ _ 0 4 c.put.ensures c.put32.ensures refl (omega arith)) c.put32-2.ensures refl
    (omega arith)) c.put32-3.ensures refl (omega arith)
