-- `baselines::drawing::draw_events` meets its contract: each turn passes an event and carries both lines on, or draws the record
-- of a change instant behind those before it. Assumes nothing.
use Prim.Native.Nat.{ℕ, ◌+◌, ◌-◌, ◌*◌, ◌≤◌}
use mathlib.Core.Path.{◌≡◌, sym, ap, ◌∙◌}
use mathlib.Core.List.{List}
use native.Mathlib.Omega.{arith}
use lib.ListN.{length}
use borrow.Rule.Slice.PartMut.{mid_len}
use Rattle.laws.specs.Lists.{joined}
use Rattle.octets.specs.Writing.{pasted}
use Rattle.slice.specs.Record.{record_size}
use Rattle.table.specs.Header.{stride_of}
use Rattle.state.proofs.Walks.{read_by}
use Rattle.baselines.proofs.Drawn.{drawing_start, drawing_record, drawing_gone, drawing_on, drawing_past}
use Rattle.baselines.proofs.Drawn.{drawing_room, drawing_more}
use Rattle.baselines.proofs.Going.{Turn, going_few, going_within, going_sized, going_end}
use Rattle.baselines.proofs.drawing.draw_events.Goals as goal
use Rattle.baselines.proofs.drawing.draw_events.Goals.{After-is, Then-is_known, then-place-lt256, else-place-lt256}

pub loop-s-init : goal.loop-s-init
loop-s-init c = record {
  stride = c.requires.stride;
  all = drawing_start (λ i. (c.type_inv.permanent i).fits) c.requires.sound c.requires.room c.requires.line
      c.head-t.ensures c.start-s.ensures;
}

-- ---- a turn: the next event, and whether it is of the instant
turn : (c : After-is) → Turn c.args.events.now c.loop-s.at c.loop-s.t c.head-next.result c.is.result
turn c = record {
  go = sym c.is_none.ensures ∙ c.loop-s-test.true;
  ahead = c.head-next.ensures;
  is = c.is.ensures;
}

-- ---- an event is passed
pub bounds-events-at : goal.bounds-events-at
bounds-events-at c =
    (going_within c.loop-s.invariant.all.going (turn (goal.at.bounds-events-at c).After-is) c.if-is.true).0

pub carry-requires : goal.carry-requires
carry-requires c =
    let l = c.loop-s in
    going_sized l.invariant.all.going (turn (goal.at.carry-requires c).After-is) c.if-is.true c.place_of-place.ensures
    (read_by _ _ c.record_size-size.ensures c.record_at-record.ensures.bytes) c.if-place-lt256.true
    ∙ ap record_size (sym l.invariant.stride)

pub pass-s-requires : goal.pass-s-requires
pass-s-requires c = going_few c.loop-s.invariant.all.going

pub loop-s-smaller-then-is : goal.loop-s-smaller-then-is
loop-s-smaller-then-is c =
    omega (arith, going_within c.loop-s.invariant.all.going (turn (goal.at.loop-s-smaller-then-is c).After-is) c.if-is.true)

pub loop-s-preserved-then-is : goal.loop-s-preserved-then-is
loop-s-preserved-then-is c =
    let l = c.loop-s in
    let u = turn (goal.at.loop-s-preserved-then-is c).After-is in
    let place = c.place_of-place.ensures in
    elim c.if-place-lt256.branch [
      | then-place-lt256 w ↦
          rw w.lines-is record {
            stride = w.carry.ensures.stride ∙ l.invariant.stride;
            all = drawing_record l.invariant.all u c.if-is.true place
                (read_by _ _ c.record_size-size.ensures w.record_at-record.ensures.bytes) w.if-place-lt256.true
                l.invariant.stride (w.s-is ∙ w.pass-s.ensures) w.carry.ensures.lines;
          }
      | else-place-lt256 w ↦
          rw (w.lines-is, w.s-is) record {
            stride = l.invariant.stride;
            all = drawing_gone l.invariant.all u c.if-is.true (λ h. omega (arith, w.if-place-lt256.false, place));
          }
    ]

-- ---- a change instant is done; where there is a state, its record
room : (c : Then-is_known) → Turn c.args.events.now c.loop-s.at c.loop-s.t c.head-next.result c.is.result
    → (c.loop-s.count + 1 ≤ 256)
    × (32 + c.loop-s.count * c.record_size-size.result + c.record_size-size.result ≤ 57376)
    × (32 + c.loop-s.count * c.record_size-size.result + c.record_size-size.result ≤ length c.loop-s.output)
room c u =
    drawing_room c.loop-s.invariant.all u c.if-is.false c.requires.sound.2
    c.next_of-end.ensures (sym c.is_known.ensures ∙ c.if-is_known.true) c.record_size-size.ensures c.requires.room

pub slice_bounds-record-end : goal.slice_bounds-record-end
slice_bounds-record-end c = omega (arith, room (goal.at.slice_bounds-record-end c).Then-is_known (turn (goal.at.slice_bounds-record-end c).After-is))

pub draw_known-requires : goal.draw_known-requires
draw_known-requires c =
    let k = room (goal.at.draw_known-requires c).Then-is_known (turn (goal.at.draw_known-requires c).After-is) in
    let bytes = c.record_size-size.result in
    let from = 32 + c.loop-s.count * bytes in
    let size : bytes ≡ record_size (stride_of c.args.permanent.now) = c.record_size-size.ensures in
    mid_len from (from + bytes) c.loop-s.output (omega (arith, k.2)) ∙ omega (arith, size)
    ∙ ap record_size (sym c.loop-s.invariant.stride)

pub loop-s-smaller-then-is_known : goal.loop-s-smaller-then-is_known
loop-s-smaller-then-is_known c =
    let (f, b) = drawing_on c.loop-s.invariant.all (turn (goal.at.loop-s-smaller-then-is_known c).After-is) c.if-is.false
    c.requires.sound.2 c.next_of-end.ensures in
    omega (arith, f, b)

pub loop-s-preserved-then-is_known : goal.loop-s-preserved-then-is_known
loop-s-preserved-then-is_known c =
    let l = c.loop-s in
    let bytes = c.record_size-size.result in
    let from = 32 + c.loop-s.count * bytes in
    let whole : from + bytes - from ≡ bytes = omega arith in
    record {
      stride = l.invariant.stride;
      all = drawing_more l.invariant.all (turn (goal.at.loop-s-preserved-then-is_known c).After-is) c.if-is.false
          c.requires.sound.2 c.next_of-end.ensures (sym c.is_known.ensures ∙ c.if-is_known.true) c.record_size-size.ensures
          c.requires.room l.invariant.stride c.draw_known.ensures whole;
    }

pub loop-s-smaller : goal.loop-s-smaller
loop-s-smaller c =
    let (f, b) = drawing_on c.loop-s.invariant.all (turn (goal.at.loop-s-smaller c).After-is) c.if-is.false
    c.requires.sound.2 c.next_of-end.ensures in
    omega (arith, f, b)

pub loop-s-preserved : goal.loop-s-preserved
loop-s-preserved c = record {
  stride = c.loop-s.invariant.stride;
  all = drawing_past c.loop-s.invariant.all (turn (goal.at.loop-s-preserved c).After-is) c.if-is.false c.requires.sound.2
      c.next_of-end.ensures (sym c.is_known.ensures ∙ c.if-is_known.false);
}

pub returns : goal.returns
returns c =
    let (all, _) = going_end c.loop-s.invariant.all.going (sym c.is_none.ensures ∙ c.loop-s-test.false) in
    c.loop-s.invariant.all.drawn ∙ ap (λ (d : List (List ℕ)). pasted c.args.output.now 32 (joined d)) (sym all)
