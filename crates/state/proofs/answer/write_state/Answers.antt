-- `state::answer::write_state` meets its contract: past the tests, the survey settles the standing, and what is written is the
-- state's record. Assumes nothing.
use mathlib.Core.Path.{◌∙◌}
use Rattle.state.proofs.Stages.{writes_known, writes_ready, coming_known, coming_laid}
use Rattle.state.proofs.answer.write_state.Goals as goal

pub put_state-requires : goal.put_state-requires
put_state-requires c =
    let f = c.survey_permanent-found.ensures in
    writes_ready _ _ _ _ _ c.requires.tables.0 f.bases f.openings f.marks _ c.settle.ensures _ _ c.if-record-record_size.false
    c.record_size.ensures _ c.in_ok-start.was _ _ c.requires.tables.1
    (coming_known _ _ _ _ c.requires.tables.1 c.passing_of-passing.ensures)

pub returns : goal.returns
returns c =
    let f = c.survey_permanent-found.ensures in
    let (answer, written) =
    writes_known _ _ _ _ _ c.requires.tables.0 f.bases f.openings f.marks _ c.settle.ensures _ _ c.if-record-record_size.false
    c.record_size.ensures _ c.is_none.ensures c.if-is_none.false _ c.in_ok-start.was c.args.temporary.now _ in
    record {
      answer = answer;
      buffer = c.put_state.ensures ∙ written _ (coming_laid _ _ _ _ c.requires.sound c.passing_of-passing.ensures);
    }
