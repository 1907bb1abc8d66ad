-- `timeslices::tsl_touched` meets its contract: a case for each answer. Assumes nothing.
use Rattle.std.proofs.Common.{sym, ap, ◌∙◌, arith}
use Rattle.state.specs.Touched.{touched_reply}
use Rattle.state.proofs.Touches.{yes_few, no_few}
use Rattle.state.proofs.Replies.{touched_same}
use Rattle.timeslices.specs.Answers.{numbers_of}
use Rattle.timeslices.proofs.tsl_touched.Goals as goal

pub overflow_cast-looked : goal.overflow_cast-looked
overflow_cast-looked c =
    let few = yes_few _ _ _ _ (sym (touched_same _ _ (rw (c.in-Ok-Yes.is, c.in-Ok-Yes.field-0-is) at c.touched.ensures))) in omega (arith, few)

pub overflow_cast-looked-in-Ok-No : goal.overflow_cast-looked-in-Ok-No
overflow_cast-looked-in-Ok-No c =
    let few = no_few _ _ _ _ (sym (touched_same _ _ (rw (c.in-Ok-No.is, c.in-Ok-No.field-0-is) at c.touched.ensures))) in omega (arith, few)

pub returns-in-Ok-Yes : goal.returns-in-Ok-Yes
unfolding touched_reply
returns-in-Ok-Yes c = c.accepted.ensures ∙ ap numbers_of (rw (c.in-Ok-Yes.is, c.in-Ok-Yes.field-0-is) at c.touched.ensures)

pub returns-in-Ok-No : goal.returns-in-Ok-No
unfolding touched_reply
returns-in-Ok-No c = c.accepted-in-Ok-No.ensures ∙ ap numbers_of (rw (c.in-Ok-No.is, c.in-Ok-No.field-0-is) at c.touched.ensures)

pub returns-in-Err : goal.returns-in-Err
unfolding touched_reply
returns-in-Err c = c.refused.ensures ∙ ap numbers_of (rw c.in-Err.is at c.touched.ensures)
