-- `timeslices::part_at` meets its contract: the part has the size of a property there. Assumes nothing.
use Rattle.std.proofs.Common.{ap}
use Rattle.timeslices.specs.Answers.{part_at}
use Rattle.timeslices.proofs.part_at.Goals as goal

pub returns : goal.returns
returns c = ap (part_at c.args.kind c.args.place) c.stride_of.ensures
