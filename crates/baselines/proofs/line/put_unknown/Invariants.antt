-- The loop: the first properties are nil, unknown, the others zeros.
use mathlib.Core.Path.{◌≡◌}
use Rattle.baselines.specs.Carried.{record_of}
use Rattle.baselines.proofs.Carried.{unknown_to}
use Rattle.baselines.proofs.line.put_unknown.Given as goal

abbrev pub invariant-loop-n : goal.invariant-loop-n
invariant-loop-n l = record_of l.stride l.line ≡ unknown_to l.stride l.n
