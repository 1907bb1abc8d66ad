-- The loop's invariant: the first i bytes are copied.
use Prim.Native.Nat.{◌-◌, ◌≤◌}
use mathlib.Core.Path.{◌≡◌}
use lib.ListN.{length, take, drop}
use Rattle.octets.specs.Writing.{pasted}
use Rattle.baselines.proofs.line.copy.Given as goal

abbrev pub invariant-loop-i : goal.invariant-loop-i
invariant-loop-i l =
    (l.i ≤ l.n) × ((length l.line ≡ length l.initial.line) × (l.line ≡ pasted l.initial.line l.to (take l.i (drop l.at l.other))))

abbrev pub decreases-loop-i : goal.decreases-loop-i
decreases-loop-i l = l.n - l.i
