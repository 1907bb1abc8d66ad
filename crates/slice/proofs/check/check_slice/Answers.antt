-- `slice::check::check_slice` meets its contract: past 9 and 10 what is left is the check of its one record. Assumes nothing.
use Rattle.std.proofs.Common.{sym, ap, ◌∙◌}
use Rattle.slice.specs.Refusing.{told}
use Rattle.slice.specs.Check.{checked_reply}
use Rattle.slice.proofs.Stages.{slice_past10}
use Rattle.slice.proofs.Reviews.{alone, review_one}
use Rattle.slice.proofs.check.check_slice.Goals as goal

pub returns-in-Ok : goal.returns-in-Ok
returns-in-Ok c =
    let a = c.args in
    let past = slice_past10 a.stride a.feature.now a.side a.slice.now (sym c.is_sized.ensures ∙ c.if-not-is_sized.false)
    (sym c.same.ensures ∙ c.if-not-same.false) in
    ap checked_reply (sym (past ∙ sym (review_one a.stride a.side a.slice.now _ c.check_records.ensures) ∙ ap (λ r. told (alone r)) c.in-Ok.is))

pub returns-in-Err : goal.returns-in-Err
returns-in-Err c =
    let a = c.args in
    let past = slice_past10 a.stride a.feature.now a.side a.slice.now (sym c.is_sized.ensures ∙ c.if-not-is_sized.false)
    (sym c.same.ensures ∙ c.if-not-same.false) in
    ap checked_reply (sym (past ∙ sym (review_one a.stride a.side a.slice.now _ c.check_records.ensures) ∙ ap (λ r. told (alone r)) c.in-Err.is))
