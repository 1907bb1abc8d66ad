-- `timeslices::tsl_new_table` meets its contract: what making the table answers, by its numbers. Assumes nothing.
use Rattle.std.proofs.Common.{ap, ◌∙◌}
use Rattle.table.specs.Arriving.{Creation, created}
use Rattle.table.proofs.Replies.{creation_same}
use Rattle.timeslices.specs.Answers.{numbers_of}
use Rattle.timeslices.proofs.Lossless.{creation_checked}
use Rattle.timeslices.proofs.tsl_new_table.Goals as goal

pub returns : goal.returns
returns c =
    let g = c.args in
    let x = c.new_table.ensures in
    record {
      answer = c.of_writing.ensures ∙ ap numbers_of (creation_checked _ ∙ x.answer);
      buffer = x.buffer ∙ ap (λ (a : Creation). created a g.table.now g.side g.feature.now) (creation_same _ _ x.answer);
    }
