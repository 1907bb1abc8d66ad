-- The loop: the begins of the records so far are noted.
use Rattle.state.specs.Asking.{slices_of}
use Rattle.baselines.specs.Noting.{begins}
use Rattle.baselines.proofs.Noted.{Noting}
use Rattle.baselines.proofs.noting.note_begins.Given as goal

abbrev pub invariant-loop-i : goal.invariant-loop-i
invariant-loop-i l =
    Noting l.permanent (λ s. s.period.begin) (λ j. j) (begins 0 (slices_of l.permanent)) 0 l.events l.n l.i
