-- `timeslices::tsl_arrive` meets its contract: what the arrival answers, by its numbers. Assumes nothing.
use Rattle.std.proofs.Common.{ap, ◌∙◌}
use Rattle.slice.specs.Record.{record_size}
use Rattle.table.specs.Header.{stride_of}
use Rattle.table.specs.Arriving.{Arrived, after, record_of}
use Rattle.table.proofs.Replies.{arrival_same}
use Rattle.timeslices.specs.Answers.{numbers_of}
use Rattle.timeslices.proofs.tsl_arrive.Goals as goal

pub returns : goal.returns
returns c =
    let t = c.args.table.now in
    let x = c.arrive.ensures in
    record {
      answer = c.of_arrival.ensures ∙ ap numbers_of x.answer;
      buffer =
          x.buffer
          ∙ ap (λ (a : Arrived). after a (record_size (stride_of t)) t (record_of c.args.slice.now)) (arrival_same _ _ x.answer);
    }
