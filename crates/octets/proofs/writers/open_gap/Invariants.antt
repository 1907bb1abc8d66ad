use Rattle.std.proofs.Common.{◌≡◌, ◌+◌, ◌≤◌, length}
use Rattle.octets.specs.Writing.{opened}
use Rattle.octets.proofs.writers.open_gap.Given as goal

abbrev pub invariant-loop-i : goal.invariant-loop-i
invariant-loop-i l = (l.from ≤ l.i) × (l.to + l.k ≤ length l.initial.s) × (l.s ≡ opened l.initial.s l.i l.to l.k) × (length l.s ≡ length l.initial.s)
