-- `timeslices::tsl_property` meets its contract: a case for each place. Assumes nothing.
use Rattle.std.proofs.Common.{ap, ◌∙◌}
use Rattle.state.specs.Asking.{place_reply}
use Rattle.timeslices.specs.Answers.{part_of}
use Rattle.timeslices.proofs.tsl_property.Goals as goal

pub returns-in-Ok-Permanent : goal.returns-in-Ok-Permanent
unfolding place_reply
returns-in-Ok-Permanent c =
    let x = rw (c.in-Ok-Permanent.is, c.in-Ok-Permanent.field-0-is) at c.locate.ensures in
    c.part_at.ensures ∙ ap (part_of c.args.permanent.now c.args.temporary.now) x

pub returns-in-Ok-Temporary : goal.returns-in-Ok-Temporary
unfolding place_reply
returns-in-Ok-Temporary c =
    let x = rw (c.in-Ok-Temporary.is, c.in-Ok-Temporary.field-0-is) at c.locate.ensures in
    c.part_at-in-Ok-Temporary.ensures ∙ ap (part_of c.args.permanent.now c.args.temporary.now) x

pub returns-in-Ok-Unmentioned : goal.returns-in-Ok-Unmentioned
unfolding place_reply
returns-in-Ok-Unmentioned c =
    ap (part_of c.args.permanent.now c.args.temporary.now) (rw (c.in-Ok-Unmentioned.is, c.in-Ok-Unmentioned.field-0-is) at c.locate.ensures)

pub returns-in-Err : goal.returns-in-Err
unfolding place_reply
returns-in-Err c =
    rw c.number.ensures (ap (part_of c.args.permanent.now c.args.temporary.now) (rw c.in-Err.is at c.locate.ensures))
