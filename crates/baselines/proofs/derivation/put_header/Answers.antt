-- `baselines::derivation::put_header` meets its contract: four parts, one behind the other, are the header. Assumes nothing.
use mathlib.Core.Path.{refl}
use native.Mathlib.Omega.{arith}
use Rattle.state.proofs.Pasting.{pasted_on}
use Rattle.baselines.proofs.derivation.put_header.Goals as goal

pub returns : goal.returns
returns c =
    let (roomy, long) = c.requires in
    pasted_on _ _ _ 0 24
    (pasted_on _ _ _ 0 8 (pasted_on _ _ _ 0 6 c.put.ensures c.put16.ensures refl (omega arith)) c.put-2.ensures refl
    (omega arith)) c.put-3.ensures (omega arith) (omega arith)
