-- `text::listing::put_listing` meets its contract: the text of what the derivation answers. Assumes nothing.
use Rattle.std.proofs.Common.{rules, arith, ap}
use Rattle.slice.specs.Refusing.{told}
use Rattle.baselines.proofs.Replies.{derivation_same}
use Rattle.text.proofs.ListingRecords.{derived_room, derived_text, refused_text}
use Rattle.text.proofs.TextWriting.{wrote_most}
use Rattle.text.proofs.listing.put_listing.Goals as goal

pub put_derived-requires : goal.put_derived-requires
put_derived-requires c =
    let d = c.derive in
    (derived_room _ _ (derivation_same _ _ d.ensures.answer) _ d.ensures.buffer _ (ap told c.in-Ok.is), search rules)

pub returns-in-Ok : goal.returns-in-Ok
returns-in-Ok c =
    let d = c.derive in
    rw (derived_text _ _ (derivation_same _ _ d.ensures.answer) _ d.ensures.buffer _ (ap told c.in-Ok.is)) at
    c.put_derived.ensures

pub returns-in-Err : goal.returns-in-Err
returns-in-Err c =
    let d = c.derive in
    wrote_most (omega arith)
    (rw (refused_text _ _ (derivation_same _ _ d.ensures.answer) _ (ap told c.in-Err.is)) at c.put_refused.ensures)
