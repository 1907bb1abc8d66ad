-- `state::question::property` meets its contract: the part that the place begins, of that table. Assumes nothing.
use mathlib.Core.Path.{ap, ◌∙◌}
use Rattle.std.specs.Prelude.{Ok}
use Rattle.slice.specs.Refusing.{told}
use Rattle.state.specs.Asking.{Located}
use Rattle.state.specs.declared.question.Place.{Place}
use Rattle.state.proofs.PropertyPlace.{handed_permanent, handed_temporary}
use Rattle.state.proofs.question.property.Goals as goal

abbrev found : Place → Located
found v = Ok v

pub returns-in-Ok-Permanent : goal.returns-in-Ok-Permanent
returns-in-Ok-Permanent c =
    let i = c.in-Ok-Permanent in
    handed_permanent (told c.locate.result) _ c.locate.ensures i.at c.args.permanent c.args.temporary _
    (ap told i.is ∙ ap found i.field-0-is) c.stride_of.ensures

pub returns-in-Ok-Temporary : goal.returns-in-Ok-Temporary
returns-in-Ok-Temporary c =
    let i = c.in-Ok-Temporary in
    handed_temporary (told c.locate.result) _ c.locate.ensures i.at c.args.permanent c.args.temporary _
    (ap told i.is ∙ ap found i.field-0-is) c.stride_of-in-Ok-Temporary.ensures
