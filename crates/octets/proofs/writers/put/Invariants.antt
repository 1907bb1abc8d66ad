use Rattle.std.proofs.Common.{◌≡◌, ◌+◌, ◌≤◌, length}
use Rattle.octets.proofs.Writing.{copying}
use Rattle.octets.proofs.writers.put.Given as goal

abbrev pub invariant-loop-i : goal.invariant-loop-i
invariant-loop-i l = (l.at + length l.r ≤ length l.initial.s) × (l.s ≡ copying l.initial.s l.r l.at l.i) × (length l.s ≡ length l.initial.s)
