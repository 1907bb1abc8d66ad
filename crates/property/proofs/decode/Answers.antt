-- `property::decode` meets its contract: by length, then by row and value. Assumes nothing.
use Rattle.std.proofs.Common.{sym, ◌∙◌}
use Rattle.property.proofs.Forms.{decode_sized}
use Rattle.property.proofs.Sound.{decode_good, not_good}
use Rattle.property.proofs.decode.Goals as goal
use Rattle.property.proofs.decode.Goals.{else-p-eq24-via-then-p-eq24+else-is_sound, else-p-eq24-via-else-p-eq24}

pub returns-then-is_sound : goal.returns-then-is_sound
returns-then-is_sound c =
    rw c.held.ensures (decode_good c.args.p.now (sym c.is_sound.ensures ∙ c.if-is_sound.true))

pub returns-else-p-eq24 : goal.returns-else-p-eq24
returns-else-p-eq24 c =
    elim c.else-p-eq24.branch [
      | else-p-eq24-via-then-p-eq24+else-is_sound w ↦ sym (not_good _ (sym w.is_sound.ensures ∙ w.if-is_sound.false))
      | else-p-eq24-via-else-p-eq24 w ↦ sym (decode_sized c.args.p.now w.if-p-eq24.false)
    ]
