-- `timeslices::tsl_snapshot` meets its contract: what the question answers, by its numbers. Assumes nothing.
use Rattle.std.proofs.Common.{ap, ◌∙◌}
use Rattle.state.specs.Asking.{Outcome, after_snapshot}
use Rattle.state.proofs.Replies.{outcome_same}
use Rattle.timeslices.specs.Answers.{instant_of, numbers_of}
use Rattle.timeslices.proofs.Lossless.{outcome_checked}
use Rattle.timeslices.proofs.tsl_snapshot.Goals as goal

pub returns : goal.returns
returns c =
    let g = c.args in
    let x = c.snapshot.ensures in
    record {
      answer = c.of_writing.ensures ∙ ap numbers_of (outcome_checked _ ∙ x.answer);
      buffer = x.buffer ∙ ap (λ (a : Outcome). after_snapshot a g.permanent.now g.temporary.now (instant_of g.instant) g.«record».now) (outcome_same _ _ x.answer);
    }
