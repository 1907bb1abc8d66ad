-- `state::writing::put_properties` meets its contract: each property is written behind those before it. Assumes nothing.
use Prim.Native.Nat.{ℕ, ◌+◌, ◌*◌}
use mathlib.Core.Path.{ap, ◌∙◌}
use mathlib.Core.List.{List}
use native.Mathlib.Omega.{arith}
use lib.ListN.{get_or}
use Rattle.laws.proofs.Pieces.{piece_within}
use Rattle.octets.specs.Writing.{pasted}
use Rattle.table.specs.Header.{stride_of}
use Rattle.state.specs.Steps.{nothing, property_by, property_from}
use Rattle.state.proofs.Pasting.{run_pasted, run_length, pasted_none, from_length}
use Rattle.state.proofs.writing.put_properties.Goals as goal

pub loop-n-init : goal.loop-n-init
loop-n-init c = pasted_none _ 32 (omega (arith, c.requires.sized))

pub loop-n-preserved : goal.loop-n-preserved
loop-n-preserved c =
    let p = c.requires in
    let a = c.args in
    let n = c.loop-n.n in
    let h = c.loop-n-test.true in
    let f = property_from a.permanent.now a.temporary.now a.start a.mentions.marks a.passing in
    let long =
    from_length a.permanent.now a.temporary.now p.anchor.whole p.whole a.start a.mentions.marks a.passing p.anchor.below p.below
    p.above in
    let stride = stride_of a.permanent.now in
    c.put_latest.ensures
    ∙ (ap (λ (d : List ℕ). pasted d (32 + n * stride)
    (property_by a.permanent.now a.temporary.now a.start (get_or a.mentions.marks n nothing) (get_or a.passing n 0) n))
    c.loop-n.invariant
    ∙ run_pasted a.«record».now f stride n (run_length f stride n (λ i k. long i (omega arith))) (long n (omega arith))
    (omega (arith, p.sized, piece_within stride n 8 (omega arith))))
