use Prim.Native.Nat.{ℕ}
use mathlib.Core.Path.{◌≡◌}
use mathlib.Core.Bool.{true, ◌&&◌}
use lib.ListN.{length, get_or, drop}
use Rattle.slice.specs.Record.{view_of}
use Rattle.history.specs.Parts.{tells, due, opens_due, later_turn, latest_with, latest_due}
use Rattle.state.specs.Asking.{slices_of}
use Rattle.state.specs.Steps.{nothing, wanted, later_of, mark_due, tally_with, tally_from}
use Rattle.state.specs.declared.anchor.Few.TheVariants.{Zero}
use Rattle.state.proofs.Marks.{Keeps, Noted}
use Rattle.state.proofs.survey.survey_permanent.Given as goal

-- the tally and each mark stand for what was found so far
abbrev pub invariant-loop-i : goal.invariant-loop-i
invariant-loop-i l = record {
  openings : Keeps (tally_with (opens_due l.since l.instant)) (λ few. few) l.openings
      (tally_from (opens_due l.since l.instant) 0 Zero (slices_of l.permanent)) l.i (drop l.i (slices_of l.permanent));
  ten : length l.latest.marks ≡ 10;
  marks : (q : ℕ) → wanted l.from l.to q ≡ true
      → Keeps (latest_with later_turn (λ d. due l.since l.instant d && tells q d)) mark_due (get_or l.latest.marks q nothing)
      (latest_due q l.since l.instant (slices_of l.permanent)) l.i (drop l.i (slices_of l.permanent));
}

-- the parts before this one are noted
abbrev pub invariant-loop-part : goal.invariant-loop-part
invariant-loop-part l = record {
  ten : length l.latest.marks ≡ 10;
  noted : Noted nothing l.from (λ q m. later_of (tells q (view_of l.stride l.record)) l.new m)
      l.initial.latest.marks l.latest.marks l.part;
}
