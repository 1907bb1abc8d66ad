-- `state::front::front_of` meets its contract: each record that is looked at goes one step on, and behind the first that is above
-- BASELINE none is one. Assumes nothing.
use Prim.Native.Nat.{◌+◌, ◌≤◌, ◌<◌}
use mathlib.Core.Path.{refl, sym, subst, ◌∙◌}
use native.Mathlib.Omega.{arith}
use lib.ListN.{get_or, drop}
use borrow.Author.Count.{below_more}
use Rattle.laws.specs.Keyed.{Rising, In}
use Rattle.laws.proofs.Put.{rising_drop}
use Rattle.slice.specs.Record.{baseline, key_less, same_key, view_of}
use Rattle.slice.proofs.Keys.{key_order}
use Rattle.table.specs.Header.{stride_of}
use Rattle.history.specs.Counted.{slice_key}
use Rattle.state.specs.Asking.{slices_of}
use Rattle.state.specs.Steps.{closed_by, held_with, base_with}
use Rattle.state.proofs.Slices.{slices_end}
use Rattle.state.proofs.Marks.{keeps_turn, keeps_past, keeps_rest, keeps_end}
use Rattle.state.proofs.Bases.{base_past, base_turn}
use Rattle.state.proofs.BaselinesFirst.{kinds_rise, none_begun}
use Rattle.state.proofs.Turns.{turn_at}
use Rattle.state.proofs.front.front_of.Goals as goal
use Rattle.state.proofs.front.front_of.Goals.{then-is_begun, else-is_begun}

pub returns-then-byte-gt-BASELINE-clause-bases : goal.returns-then-byte-gt-BASELINE-clause-bases
unfolding view_of
returns-then-byte-gt-BASELINE-clause-bases c =
    let t = c.args.permanent.now in
    let a = c.args.instant in
    let l = c.loop-place in
    let here = view_of (stride_of t) c.record_at-record.result.now in
    let turn = turn_at t l.place c.record_size-size.ensures c.record_at-record.ensures.bytes refl c.requires.whole (omega arith) in
    let rest = drop (l.place + 1) (slices_of t) in
    let high : baseline < here.kind = omega (arith, c.byte.ensures) in
    let up = subst (Rising slice_key key_less same_key) turn.next
    (rising_drop slice_key key_less same_key key_order l.place (slices_of t) c.requires.rising) in
    keeps_rest (base_with a) (λ b. b) l.bases _ l.place _
    (λ d m b n. base_past a n d (none_begun a d (kinds_rise here rest up high d (subst (In d) turn.next m))) b) l.invariant.0

pub loop-place-preserved : goal.loop-place-preserved
unfolding view_of
loop-place-preserved c =
    let t = c.args.permanent.now in
    let a = c.args.instant in
    let l = c.loop-place in
    let here = view_of (stride_of t) c.record_at-record.result.now in
    let turn = turn_at t l.place c.record_size-size.ensures c.record_at-record.ensures.bytes refl c.requires.whole (omega arith) in
    let told = c.is_begun.ensures (stride_of t) in
    let low : here.kind ≤ baseline = omega (arith, c.byte.ensures) in (
      elim c.if-is_begun.branch [
        | then-is_begun w ↦ keeps_turn (base_with a) (λ b. b) l.bases _ _ l.place here _ _ turn.next
            (λ b. held_with a l.place here.period (closed_by here.period.begin b))
            (base_turn a l.place here (sym told ∙ w.if-is_begun.true))
            (w.bases-is ∙ (w.held_with-bases.ensures ∙ rw (w.closed_by.ensures, w.period_of-period.ensures))) l.invariant.0
        | else-is_begun w ↦ keeps_past (base_with a) (λ b. b) l.bases _ _ l.place here _ _ turn.next
            (base_past a l.place here (sym told ∙ w.if-is_begun.false)) w.bases-is l.invariant.0
      ],
      λ j d. below_more (λ j. (get_or (slices_of t) j d).kind ≤ baseline) l.place (λ k. l.invariant.1 k d) (rw (turn.here d) low) j,
    )

pub returns-clause-bases : goal.returns-clause-bases
returns-clause-bases c =
    keeps_end (base_with c.args.instant) (λ b. b) c.loop-place.bases _ c.loop-place.place _
    (slices_end c.args.permanent.now c.loop-place.place (omega arith)) c.loop-place.invariant.0
