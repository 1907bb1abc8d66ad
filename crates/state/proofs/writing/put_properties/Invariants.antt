use mathlib.Core.Path.{◌≡◌}
use Rattle.octets.specs.Writing.{pasted}
use Rattle.state.specs.Steps.{property_from, run_of}
use Rattle.state.proofs.writing.put_properties.Given as goal

-- the first n properties are written
abbrev pub invariant-loop-n : goal.invariant-loop-n
invariant-loop-n l =
    l.record ≡ pasted l.initial.record 32 (run_of (property_from l.permanent l.temporary l.start l.mentions.marks l.passing) l.n)
