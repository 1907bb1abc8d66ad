-- `state::answer::check_both` meets its contract: one check behind the other. Assumes nothing.
use native.Mathlib.Omega.{arith}
use Rattle.std.proofs.lemmas.Grind.{common_steps}
use Rattle.slice.proofs.Replies.{checked_same}
use Rattle.state.proofs.Stages.{both_is}
use Rattle.state.proofs.answer.check_both.Goals as goal

pub returns-in_err-check_table : goal.returns-in_err-check_table
returns-in_err-check_table c = grind (arith, common_steps, both_is, checked_same _ _ c.check_table.ensures)

pub returns-in_err-check_table-2 : goal.returns-in_err-check_table-2
returns-in_err-check_table-2 c =
    grind (arith, common_steps, both_is, checked_same _ _ c.check_table.ensures, checked_same _ _ c.check_table-2.ensures)
