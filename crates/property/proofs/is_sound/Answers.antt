-- `property::is_sound` meets its contract: the row and the value say whether the bytes keep the layout. Assumes nothing.
use Rattle.std.proofs.Common.{◌≡◌, ◌<◌, ◌≤◌, ℕ, List, get_or, sym, ap, ◌∙◌}
use Rattle.octets.specs.Bytes.{byte_of}
use Rattle.property.specs.Limits.{limits_for, all_limits}
use Rattle.property.specs.Eight.{is_good}
use Rattle.property.specs.declared.Limits.{Limits}
use Rattle.property.proofs.Rows.{limits_at}
use Rattle.property.proofs.Sound.{sound_yes, sound_no, no_form}
use Rattle.property.proofs.is_sound.Goals as goal

pub returns-in_default : goal.returns-in_default
returns-in_default c =
    let long : 6 ≤ byte_of c.args.p.now 0 = rw (c.requires.of_rows, c.byte.ensures) at c.in_default.ensures.lookup.3 in
    sym (ap is_good (no_form c.args.p.now long))

-- the limits are those of the form
of_form : (limits : List Limits) → limits ≡ all_limits → (form f : ℕ) → f ≡ form → form < 6 → (l : Limits)
    → l ≡ get_or limits f l → l ≡ limits_for form
of_form limits e form f q b l g = rw (e, q) at g ∙ limits_at l form b

pub returns-then-fits : goal.returns-then-fits
returns-then-fits c =
    let b : byte_of c.args.p.now 0 < 6 = rw (c.requires.of_rows, c.byte.ensures) at c.in-Some.ensures.lookup.3.0 in
    let l = of_form _ c.requires.of_rows _ _ c.byte.ensures b _ c.in-Some.ensures.lookup.1 in
    rw (c.is_right.ensures, c.held.ensures) (sound_yes c.args.p.now (λ i. (c.type_inv.p i).fits) c.requires.whole b
    (sym (rw (l, c.le64-3.ensures, c.le64-2.ensures, c.le64.ensures) at c.fits.ensures) ∙ c.if-fits.true))

pub returns-else-fits : goal.returns-else-fits
returns-else-fits c =
    let b : byte_of c.args.p.now 0 < 6 = rw (c.requires.of_rows, c.byte.ensures) at c.in-Some.ensures.lookup.3.0 in
    let l = of_form _ c.requires.of_rows _ _ c.byte.ensures b _ c.in-Some.ensures.lookup.1 in
    c.if-fits.false ∙ sound_no c.args.p.now (λ i. (c.type_inv.p i).fits) c.requires.whole b
    (sym (rw (l, c.le64-3.ensures, c.le64-2.ensures, c.le64.ensures) at c.fits.ensures) ∙ c.if-fits.false)
