-- `baselines::noting::note_ends` meets its contract. Assumes nothing.
use Prim.Native.Nat.{◌<◌}
use mathlib.Core.Path.{◌≡◌, refl, sym, ap, ◌∙◌}
use mathlib.Core.Bool.{true}
use native.Mathlib.Omega.{arith}
use lib.Dec.{eqb}
use borrow.Author.Tests.{eq-eqb, ne_eqb}
use Rattle.slice.specs.Record.{baseline, kind_of, life_of, view_of}
use Rattle.table.specs.Header.{count_of}
use Rattle.state.proofs.Walks.{read_by}
use Rattle.baselines.specs.Noting.{gone_of}
use Rattle.baselines.proofs.Noted.{slice_at, count_most, late_done, noting_one, noting_none, noting_done, noting_end}
use Rattle.baselines.proofs.noting.note_ends.Goals as goal
use Rattle.baselines.proofs.noting.note_ends.Goals.{then-not-is_none, else-not-is_none}

pub loop-i-init : goal.loop-i-init
loop-i-init c =
    record {
      sound = c.requires.0;
      most = count_most _ c.requires.0;
      low = c.requires.1.1;
      few = omega arith;
      within = omega arith;
      sized = c.requires.1.0;
      all = refl;
    }

pub returns-then-byte-ne-BASELINE-clause-list : goal.returns-then-byte-ne-BASELINE-clause-list
unfolding view_of
returns-then-byte-ne-BASELINE-clause-list c =
    let p = c.args.permanent.now in
    let l = c.loop-i in
    let more : l.i < count_of p = omega arith in
    let read = read_by p l.i c.record_size-size.ensures c.record_at-record.ensures.bytes in
    let kind : c.byte.result ≡ (slice_at p l.i).kind = c.byte.ensures ∙ ap kind_of read in
    let apart = ne_eqb (slice_at p l.i).kind baseline (λ e. c.if-byte-ne-BASELINE.true (kind ∙ e)) in
    noting_done l.invariant (late_done p l.invariant.sound l.i more apart)

pub loop-i-preserved : goal.loop-i-preserved
unfolding view_of
loop-i-preserved c =
    let p = c.args.permanent.now in
    let l = c.loop-i in
    let more : l.i < count_of p = omega arith in
    let read = read_by p l.i c.record_size-size.ensures c.record_at-record.ensures.bytes in
    let kind : c.byte.result ≡ (slice_at p l.i).kind = c.byte.ensures ∙ ap kind_of read in
    let same : eqb (slice_at p l.i).kind baseline ≡ true = eq-eqb _ _ (sym kind ∙ c.if-byte-ne-BASELINE.false) in
    let t : _ ≡ gone_of (slice_at p l.i) =
    ap (λ x. x.end) (c.life_of.ensures ∙ ap life_of read) ∙ sym (rw same) in
    let none = sym c.is_none.ensures in
    elim c.if-not-is_none.branch [
      | then-not-is_none w ↦ rw (w.events-is, w.n-is) (noting_one l.invariant more t (none ∙ w.if-not-is_none.true) w.event_of.ensures)
      | else-not-is_none w ↦ rw (w.events-is, w.n-is) (noting_none l.invariant more t (none ∙ w.if-not-is_none.false))
    ]

pub returns-clause-list : goal.returns-clause-list
returns-clause-list c = noting_end c.loop-i.invariant (omega arith)
