-- `timeslices::tsl_derive` meets its contract: a case for each answer. Assumes nothing.
use Rattle.std.proofs.Common.{sym, ap, ◌∙◌, arith}
use Rattle.baselines.specs.Deriving.{Derivation, derivation_reply, after_deriving}
use Rattle.baselines.proofs.DerivedTable.{derived_told}
use Rattle.baselines.proofs.Replies.{derivation_same}
use Rattle.timeslices.specs.Answers.{numbers_of}
use Rattle.timeslices.proofs.tsl_derive.Goals as goal

-- there are at most 256 records
pub overflow_cast-count : goal.overflow_cast-count
overflow_cast-count c =
    let t = derived_told _ _ _ (sym (derivation_same _ _ (rw c.in-Ok.is at c.derive.ensures.answer))) in
    omega (arith, t.number, t.few)

pub returns-in-Ok : goal.returns-in-Ok
unfolding derivation_reply
returns-in-Ok c =
    let g = c.args in
    let x = c.derive.ensures in
    record {
      answer = c.accepted.ensures ∙ ap numbers_of (rw c.in-Ok.is at x.answer);
      buffer = x.buffer ∙ ap (λ (a : Derivation). after_deriving a g.permanent.now g.output.now) (derivation_same _ _ x.answer);
    }

pub returns-in-Err : goal.returns-in-Err
unfolding derivation_reply
returns-in-Err c =
    let g = c.args in
    let x = c.derive.ensures in
    record {
      answer = c.refused.ensures ∙ ap numbers_of (rw c.in-Err.is at x.answer);
      buffer = x.buffer ∙ ap (λ (a : Derivation). after_deriving a g.permanent.now g.output.now) (derivation_same _ _ x.answer);
    }
