use Prim.Native.Nat.{ℕ, ◌+◌, ◌-◌}
use mathlib.Core.List.{List}
use lib.ListN.{length}
use Rattle.numbers.specs.Numbers.{no_instant}
use Rattle.slice.specs.Record.{Slice}
use Rattle.baselines.proofs.Going.{Going}
use Rattle.baselines.proofs.counting.count_all.Given as goal

-- the records of the change instants before are counted
abbrev pub invariant-loop-s : goal.invariant-loop-s
invariant-loop-s l = (xs : List Slice) × (done : List (List ℕ)) × Going l.permanent l.events l.s l.at l.t l.count xs done

abbrev pub decreases-loop-s : goal.decreases-loop-s
decreases-loop-s l = (length l.events - l.at) + (no_instant - l.t.0)
