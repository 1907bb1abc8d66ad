-- `state::writing::put_times` meets its contract: four numbers, one behind the other. Assumes nothing.
use mathlib.Core.Path.{◌≡◌, refl}
use native.Mathlib.Omega.{arith}
use Rattle.octets.specs.Writing.{bytes_of, pasted}
use Rattle.numbers.specs.Numbers.{no_instant, none}
use Rattle.state.proofs.Pasting.{pasted_on}
use Rattle.state.proofs.writing.put_times.Goals as goal

pub returns : goal.returns
unfolding no_instant
returns c =
    let two : c.put32-2.new.s ≡ pasted c.put32.new.s 12 (bytes_of 4 none.0) = cc in
    pasted_on _ _ _ 8 20
    (pasted_on _ _ _ 8 16 (pasted_on _ _ _ 8 12 c.put32.ensures two refl (omega arith)) c.put32-3.ensures refl
    (omega arith)) c.put32-4.ensures refl (omega arith)
