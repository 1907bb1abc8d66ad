-- `state::writing::put_state` meets its contract: the head and then the properties are all of the record. Assumes nothing.
use Prim.Native.Nat.{ℕ}
use mathlib.Core.Path.{refl, ap, ◌∙◌}
use mathlib.Core.List.{List, ◌++◌}
use native.Mathlib.Omega.{arith}
use lib.ListN.{replicate}
use Rattle.octets.specs.Writing.{pasted}
use Rattle.slice.specs.declared.record.Life.{Life}
use Rattle.table.specs.Header.{stride_of}
use Rattle.state.specs.Written.{state_kind, state_times}
use Rattle.state.specs.Steps.{property_from, run_of}
use Rattle.state.proofs.Pasting.{run_length, from_length, whole_pasted}
use Rattle.state.proofs.writing.put_state.Goals as goal

pub returns : goal.returns
returns c =
    let p = c.requires in
    let a = c.args in
    let f = property_from a.permanent.now a.temporary.now a.start a.mentions.marks a.passing in
    let long =
    from_length a.permanent.now a.temporary.now p.anchor.whole p.whole a.start a.mentions.marks a.passing
    p.anchor.below p.below p.above in
    let run = run_length f (stride_of a.permanent.now) 8 long in
    c.put_properties.ensures
    ∙ (ap (λ (d : List ℕ). pasted d 32 (run_of f 8))
    (c.put_head.ensures
    ∙ ap (λ (l : Life). pasted a.«record».now 0 (state_kind ++ (state_times a.instant l ++ replicate 8 0)))
    c.life_of_state.ensures)
    ∙ whole_pasted a.«record».now _ (run_of f 8) refl (omega (arith, p.sized, run)))
