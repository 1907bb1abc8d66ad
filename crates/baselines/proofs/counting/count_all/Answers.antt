-- `baselines::counting::count_all` meets its contract: each turn passes an event or counts a change instant. Assumes nothing.
use mathlib.Core.Path.{◌≡◌, sym, ap, ◌∙◌}
use mathlib.Core.Bool.{false}
use native.Mathlib.Omega.{arith}
use Rattle.state.proofs.Walks.{read_by}
use Rattle.baselines.specs.Sweeping.{is_two}
use Rattle.baselines.specs.Steps.{counted_of}
use Rattle.std.specs.Prelude.{Ok}
use Rattle.baselines.proofs.Going.{Turn, going_start, going_few, going_within, going_record, going_gone, going_two}
use Rattle.baselines.proofs.Going.{going_on, going_past, going_more, going_end}
use Rattle.baselines.proofs.counting.count_all.Goals as goal
use Rattle.baselines.proofs.counting.count_all.Goals.{After-is, then-place-lt256, else-place-lt256, then-is_known, else-is_known}

pub loop-s-init : goal.loop-s-init
loop-s-init c =
    (_, _, going_start (λ i. (c.type_inv.permanent i).fits) c.requires.0 c.requires.1 c.head-t.ensures c.start-s.ensures)

-- ---- a turn: the next event, and whether it is of the instant
turn : (c : After-is) → Turn c.args.events.now c.loop-s.at c.loop-s.t c.head-next.result c.is.result
turn c = record {
  go = sym c.is_none.ensures ∙ c.loop-s-test.true;
  ahead = c.head-next.ensures;
  is = c.is.ensures;
}

-- ---- an event is passed
pub bounds-events-at : goal.bounds-events-at
bounds-events-at c = (going_within c.loop-s.invariant.2 (turn (goal.at.bounds-events-at c).After-is) c.if-is.true).0

pub pass-s-requires : goal.pass-s-requires
pass-s-requires c = going_few c.loop-s.invariant.2

pub loop-s-smaller-then-is : goal.loop-s-smaller-then-is
loop-s-smaller-then-is c =
    omega (arith, going_within c.loop-s.invariant.2 (turn (goal.at.loop-s-smaller-then-is c).After-is) c.if-is.true)

pub loop-s-preserved-then-is : goal.loop-s-preserved-then-is
loop-s-preserved-then-is c =
    let u = turn (goal.at.loop-s-preserved-then-is c).After-is in
    let (_, _, g) = c.loop-s.invariant in
    let place = c.place_of-place.ensures in
    elim c.if-place-lt256.branch [
      | then-place-lt256 w ↦ (
        _,
        _,
        going_record g u c.if-is.true place (read_by _ _ c.record_size-size.ensures w.record_at.ensures.bytes)
            w.if-place-lt256.true (w.s-is ∙ w.pass-s.ensures),
      )
      | else-place-lt256 w ↦ rw w.s-is (_, _, going_gone g u c.if-is.true (λ h. omega (arith, w.if-place-lt256.false, place)))
    ]

-- ---- a change instant is done
pub returns-then-is_two : goal.returns-then-is_two
unfolding counted_of
returns-then-is_two c =
    let two = going_two c.loop-s.invariant.2 (turn (goal.at.returns-then-is_two c).After-is) c.if-is.false
    (sym c.is_two.ensures ∙ c.if-is_two.true) in
    sym (rw two)

pub loop-s-smaller : goal.loop-s-smaller
loop-s-smaller c =
    let (f, b) = going_on c.loop-s.invariant.2 (turn (goal.at.loop-s-smaller c).After-is) c.if-is.false
    (sym c.is_two.ensures ∙ c.if-is_two.false) c.next_of-t.ensures in
    omega (arith, f, b)

pub loop-s-preserved : goal.loop-s-preserved
loop-s-preserved c =
    let (_, _, g) = c.loop-s.invariant in
    let u = turn (goal.at.loop-s-preserved c).After-is in
    let one : is_two c.loop-s.s c.loop-s.t ≡ false = sym c.is_two.ensures ∙ c.if-is_two.false in
    let is = sym c.is_known.ensures in
    elim c.if-is_known.branch [
      | then-is_known w ↦
          rw w.count-is (_, _, going_more g u c.if-is.false one c.next_of-t.ensures (is ∙ w.if-is_known.true))
      | else-is_known w ↦
          rw w.count-is (_, _, going_past g u c.if-is.false one c.next_of-t.ensures (is ∙ w.if-is_known.false))
    ]

pub returns : goal.returns
unfolding counted_of
returns c =
    let (_, _, g) = c.loop-s.invariant in
    let (all, one) = going_end g (sym c.is_none.ensures ∙ c.loop-s-test.false) in
    ap Ok g.counted ∙ sym (rw (one, all))
