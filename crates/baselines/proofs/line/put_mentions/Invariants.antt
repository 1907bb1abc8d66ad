-- The loop: of the state that the line said, the first properties are replaced where they are mentioned.
use mathlib.Core.Path.{◌≡◌}
use Rattle.slice.specs.Record.{view_of}
use Rattle.history.specs.State.{State}
use Rattle.baselines.specs.Carried.{Carries, record_of}
use Rattle.baselines.proofs.Carried.{partly}
use Rattle.baselines.proofs.line.put_mentions.Given as goal

abbrev pub invariant-loop-n : goal.invariant-loop-n
invariant-loop-n l =
    (s : State) (c : Carries l.stride s (record_of l.stride l.initial.line))
    → record_of l.stride l.line ≡ partly l.stride (view_of l.stride l.delta) s (record_of l.stride l.initial.line) c l.n
