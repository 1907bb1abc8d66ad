-- `state::question::locate` meets its contract: what a property is placed by is there. Assumes nothing.
use mathlib.Core.Path.{sym, ap, ◌∙◌}
use Rattle.slice.specs.Refusing.{told}
use Rattle.state.proofs.Stages.{places_asks}
use Rattle.state.proofs.question.locate.Goals as goal

pub placed-requires : goal.placed-requires
placed-requires c =
    let f = c.survey_permanent-found.ensures in
    let (small, anchor, below, above) =
    places_asks _ _ _ (sym c.check_both.ensures ∙ ap told c.in_ok-check_both.was) _ _ c.is_none.ensures
    c.if-is_none-property.false _ _ _ f.bases f.openings f.marks _ c.settle.ensures _ c.in_ok-start.was _
    c.overlay-passing.ensures in
    record { property = small; anchor = anchor; below = below; above = above }
