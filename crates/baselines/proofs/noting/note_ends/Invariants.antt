-- The loop: the life ends of the records so far are noted, and these are BASELINEs.
use mathlib.Core.List.{◌++◌}
use lib.ListN.{take}
use Rattle.state.specs.Asking.{slices_of}
use Rattle.baselines.specs.Noting.{nowhere, gone_of, life_ends}
use Rattle.baselines.proofs.Noted.{Noting}
use Rattle.baselines.proofs.noting.note_ends.Given as goal

abbrev pub invariant-loop-i : goal.invariant-loop-i
invariant-loop-i l =
    Noting l.permanent gone_of (λ _. nowhere) (take l.from l.initial.events ++ life_ends 0 (slices_of l.permanent)) l.from
    l.events l.n l.i
