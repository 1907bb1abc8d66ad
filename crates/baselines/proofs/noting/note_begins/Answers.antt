-- `baselines::noting::note_begins` meets its contract. Assumes nothing.
use Prim.Native.Nat.{◌<◌}
use mathlib.Core.Path.{refl, ap, ◌∙◌}
use native.Mathlib.Omega.{arith}
use Rattle.slice.specs.Record.{period_of, view_of}
use Rattle.table.specs.Header.{count_of}
use Rattle.state.proofs.Walks.{read_by}
use Rattle.baselines.proofs.Noted.{count_most, noting_one, noting_none, noting_end}
use Rattle.baselines.proofs.noting.note_begins.Goals as goal

pub loop-i-init : goal.loop-i-init
loop-i-init c =
    record { sound = c.requires.0; most = count_most _ c.requires.0; low = omega arith; few = omega arith; within = omega arith; sized = c.requires.1; all = refl }

pub loop-i-preserved : goal.loop-i-preserved
unfolding view_of
loop-i-preserved c =
    let p = c.args.permanent.now in
    let l = c.loop-i in
    let more : l.i < count_of p = omega arith in
    let r = read_by p l.i c.record_size-size.ensures c.record_at.ensures.bytes in
    let t = ap (λ x. x.begin) (c.period_of.ensures ∙ ap period_of r) in
    grind (arith, noting_one l.invariant more t, noting_none l.invariant more t)

pub returns-clause-list : goal.returns-clause-list
returns-clause-list c = noting_end c.loop-i.invariant (omega arith)
