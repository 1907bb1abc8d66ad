use Prim.Native.Nat.{◌+◌, ◌-◌}
use mathlib.Core.Path.{◌≡◌}
use lib.ListN.{length}
use Rattle.numbers.specs.Numbers.{no_instant}
use Rattle.table.specs.Header.{stride_of}
use Rattle.baselines.proofs.Drawn.{Drawing}
use Rattle.baselines.proofs.drawing.draw_events.Given as goal

abbrev pub invariant-loop-s : goal.invariant-loop-s
invariant-loop-s l = record {
  stride : l.lines.stride ≡ stride_of l.permanent;
  all : Drawing l.permanent l.events l.initial.output l.lines.base.now l.lines.line.now l.output l.s l.at l.t l.count;
}

abbrev pub decreases-loop-s : goal.decreases-loop-s
decreases-loop-s l = (length l.events - l.at) + (no_instant - l.t.0)
