-- `state::writing::put_head` meets its contract: three parts, one behind the other. Assumes nothing.
use mathlib.Core.Path.{refl}
use native.Mathlib.Omega.{arith}
use Rattle.state.proofs.Pasting.{pasted_on}
use Rattle.state.proofs.writing.put_head.Goals as goal

pub returns : goal.returns
returns c =
    pasted_on _ _ _ 0 24 (pasted_on _ _ _ 0 8 c.put.ensures c.put_times.ensures refl (omega arith))
    c.put-2.ensures refl (omega arith)
