-- `property::check_eight` meets its contract: each turn looks at one of the eight properties. Assumes nothing.
use Rattle.std.proofs.Common.{◌≡◌, ◌+◌, ◌*◌, ◌-◌, ◌≤◌, ◌<◌, ◌&&◌, ℕ, List, true, false}
use Rattle.std.proofs.Common.{length, take, drop, sym, ap, ◌∙◌, arith, zero-mul}
use lib.ListN.{length-take, length-drop}
use Rattle.laws.specs.Lists.{pieces}
use Rattle.octets.specs.Bytes.{filled}
use Rattle.property.specs.Layout.{decode_of}
use Rattle.property.specs.Eight.{is_good, whole_in}
use Rattle.property.proofs.Found.{bad_at, found_from, found_start, turn_broken, turn_mentioned, turn_silent, turn_short}
use Rattle.property.proofs.Found.{whole_most, whole_room, next_place}
use Rattle.property.proofs.Sound.{blank_told, not_good, mention_told}
use Rattle.property.proofs.check_eight.Goals as goal
use Rattle.property.proofs.check_eight.Goals.{then-not-is_blank+else-not-is_sound, else-not-is_blank}

pub loop-i-init : goal.loop-i-init
loop-i-init c = record {
  few = omega arith;
  found = rw (zero-mul c.args.stride) (found_start c.args.stride c.args.bytes.now);
}

-- ---- a turn, at property i, m being mentioned before it
module _ (b : List ℕ) (stride i m : ℕ) (l : i < whole_in (length b) stride) where
  abbrev piece : List ℕ
  piece = take (i * stride + 24 - i * stride) (drop (i * stride) b)

  room : (24 ≤ stride) × (i * stride + 24 ≤ length b)
  room = whole_room (length b) stride i l

  few : i < 8
  few = omega (arith, whole_most (length b) stride)

  same : i * stride + 24 - i * stride ≡ 24
  same = omega arith

  sized : length (take 24 (drop (i * stride) b)) ≡ 24
  sized = simp (length-take, length-drop) (omega (arith, room.1))

  bad : is_good (decode_of piece) ≡ false → bad_at i ≡ found_from i m (pieces stride (8 - i) (drop (i * stride) b))
  bad e = sym (turn_broken _ _ _ _ few room.0 (not_good _ (rw same at e)))

  mentioned : is_good (decode_of piece) ≡ true → (filled 0 8 piece 0 && filled 0 16 piece 8) ≡ false
      → found_from i m (pieces stride (8 - i) (drop (i * stride) b))
      ≡ found_from (i + 1) (m + 1) (pieces stride (8 - (i + 1)) (drop ((i + 1) * stride) b))
  mentioned e f =
      turn_mentioned _ _ _ _ few room.0 (mention_told _ sized (rw same at e) (rw same at f))
      ∙ ap (λ (d : List ℕ). found_from (i + 1) (m + 1) (pieces stride (8 - (i + 1)) d)) (next_place stride i b)

  silent : (filled 0 8 piece 0 && filled 0 16 piece 8) ≡ true
      → found_from i m (pieces stride (8 - i) (drop (i * stride) b))
      ≡ found_from (i + 1) m (pieces stride (8 - (i + 1)) (drop ((i + 1) * stride) b))
  silent f =
      turn_silent _ _ _ _ few room.0 (blank_told _ sized (rw same at f))
      ∙ ap (λ (d : List ℕ). found_from (i + 1) m (pieces stride (8 - (i + 1)) d)) (next_place stride i b)

pub returns-then-not-is_sound : goal.returns-then-not-is_sound
returns-then-not-is_sound c =
    let l : c.loop-i.i < whole_in (length c.args.bytes.now) c.args.stride = omega (arith, c.whole_in-whole.ensures) in
    bad c.args.bytes.now c.args.stride c.loop-i.i c.loop-i.mentioned l (sym c.is_sound.ensures ∙ c.if-not-is_sound.true)
    ∙ sym c.loop-i.invariant.found

pub loop-i-preserved : goal.loop-i-preserved
loop-i-preserved c =
    let l : c.loop-i.i < whole_in (length c.args.bytes.now) c.args.stride = omega (arith, c.whole_in-whole.ensures) in
    elim c.if-not-is_blank.branch [
      | then-not-is_blank+else-not-is_sound w ↦ record {
        few = omega arith;
        found = c.loop-i.invariant.found ∙ rw w.mentioned-is
            (mentioned _ _ _ _ l (sym w.is_sound.ensures ∙ w.if-not-is_sound.false) (sym c.is_blank.ensures ∙ w.if-not-is_blank.true));
      }
      | else-not-is_blank w ↦ record {
        few = omega arith;
        found = c.loop-i.invariant.found ∙ rw w.mentioned-is (silent _ _ _ _ l (sym c.is_blank.ensures ∙ w.if-not-is_blank.false));
      }
    ]

pub returns-then-whole-lt8 : goal.returns-then-whole-lt8
returns-then-whole-lt8 c =
    let e : c.loop-i.i ≡ c.whole_in-whole.result = omega arith in
    let f = turn_short c.args.stride c.loop-i.mentioned c.args.bytes.now (rw c.whole_in-whole.ensures at c.if-whole-lt8.true) in
    let h = c.loop-i.invariant.found in
    rw c.whole_in-whole.ensures (sym (rw (e, c.whole_in-whole.ensures) at h ∙ f))
