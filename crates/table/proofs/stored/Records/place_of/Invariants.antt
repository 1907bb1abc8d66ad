-- The place lies from low to high.
use Rattle.std.proofs.Common.{◌-◌, ◌≤◌}
use Rattle.table.specs.Header.{records_of}
use Rattle.table.specs.Steps.{place_for}
use Rattle.table.proofs.stored.Records.place_of.Given as goal

abbrev pub invariant-loop-low : goal.invariant-loop-low
invariant-loop-low l = record {
  from_low : l.low ≤ place_for l.key (records_of l.self.size l.self.table.now);
  to_high : place_for l.key (records_of l.self.size l.self.table.now) ≤ l.high;
  within : l.high ≤ l.self.count;
}

abbrev pub decreases-loop-low : goal.decreases-loop-low
decreases-loop-low l = l.high - l.low
