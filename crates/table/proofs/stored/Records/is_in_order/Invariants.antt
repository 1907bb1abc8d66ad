-- All the records rise where those from the one before record i on do.
use Rattle.std.proofs.Common.{◌≡◌, ◌-◌}
use Rattle.table.specs.Header.{records_of}
use Rattle.table.specs.Rules.{in_order}
use Rattle.table.proofs.Walks.{rise_from}
use Rattle.table.proofs.stored.Records.is_in_order.Given as goal

abbrev pub invariant-loop-i : goal.invariant-loop-i
invariant-loop-i l = in_order (records_of l.self.size l.self.table.now) ≡ rise_from l.self.size l.self.table.now (l.i - 1)
