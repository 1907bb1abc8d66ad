-- What a sound record and a sound slice are, field by field, for the floors above. Assumes nothing.
use Prim.Native.Nat.{ℕ, ◌+◌, ◌*◌, ◌<◌}
use mathlib.Core.Path.{◌≡◌, refl, sym, ◌∙◌, ap}
use mathlib.Core.List.{List, [], ◌∷◌, ◌++◌}
use mathlib.Core.Bool.{Bool, true, false, cond, not, ◌&&◌}
use mathlib.Core.Logic.{◌⊎◌, inl, inr}
use native.Mathlib.Omega.{arith}
use lib.ListN.{length, take, drop, length-append, length-drop}
use lib.Seq.{take_at, drop_at}
use lib.Dec.{eqb, ltb}
use borrow.Author.Tests.{not-false, eqb-true, eq-eqb, ltb-true, lt-ltb}
use Rattle.laws.specs.Lists.{any}
use Rattle.laws.specs.Refusals.{test, Passed, FirstFails}
use Rattle.laws.proofs.Tests.{tests, iff, and_both}
use Rattle.laws.proofs.Refusals.{answer_given, number_given, given_passed, given_number}
use Rattle.laws.proofs.Replies.{refusal_apart, refusal_tells}
use Rattle.octets.specs.Bytes.{filled}
use Rattle.octets.proofs.Runs.{same_bytes_lem, bytes_same}
use Rattle.property.specs.Eight.{breaks}
use Rattle.slice.specs.Record.{of_side, record_size, slice_size, kind_of, flags_of, cancelled_of, parts_of, view_of}
use Rattle.slice.specs.Rules.{times_right, content_right}
use Rattle.slice.specs.Check.{checked_reply, refused, reserved_clear, emptied, counted_tests, record_tests, slice_tests}
use Rattle.slice.specs.Check.{check_record, check_slice}
use Rattle.slice.specs.Check.{sound}
use Rattle.slice.proofs.Stages.{record_is, slice_is}

-- ---- the answers of the check are told apart by their numbers
pub refused_apart : (n : ℕ) → refused n ≡ sound → ⊥
unfolding checked_reply
refused_apart n e = refusal_apart n 1 0 (ap checked_reply e)

pub refused_tells : (m n : ℕ) → refused m ≡ refused n → m ≡ n
unfolding checked_reply
refused_tells m n e = refusal_tells m n (ap checked_reply e)

-- a slice is refused with the number of the first test that it fails, and with no other
pub slice_refused : (stride : ℕ) (feature : List ℕ) (side : ℕ) (s : List ℕ) (n : ℕ)
    → check_slice stride feature side s ≡ refused n → FirstFails n (slice_tests stride feature side s)
unfolding check_slice
slice_refused stride feature side s n = given_number refused sound refused_apart refused_tells n (slice_tests stride feature side s)

pub refused_slice : (stride : ℕ) (feature : List ℕ) (side : ℕ) (s : List ℕ) (n : ℕ)
    → FirstFails n (slice_tests stride feature side s) → check_slice stride feature side s ≡ refused n
unfolding check_slice
refused_slice stride feature side s n = number_given refused sound n (slice_tests stride feature side s)

-- ---- a sound record
module _ (stride : ℕ) (r : List ℕ) where
  -- cancelled: it gives no time and says nothing
  pub record Emptied : Type 0 where
    pub cancelled : cancelled_of r ≡ true
    pub timeless : filled 255 16 r 8 ≡ true
    pub blank : filled 0 (8 * stride) r 32 ≡ true

  -- not cancelled: it counts
  pub record Counted : Type 0 where
    pub uncancelled : cancelled_of r ≡ false
    pub properties : any breaks (parts_of stride r) ≡ false
    pub times : times_right (view_of stride r) ≡ true
    pub content : content_right (view_of stride r) ≡ true

  pub record SoundRecord (side : ℕ) : Type 0 where
    pub size : length r ≡ record_size stride
    pub kind : of_side side (kind_of r) ≡ true
    pub flags : flags_of r < 2
    pub reserved : filled 0 8 r 24 ≡ true
    pub rest : Emptied ⊎ Counted

module _ (stride side : ℕ) (r : List ℕ) where
  counted : cancelled_of r ≡ false → Passed (counted_tests stride r) → Counted stride r
  unfolding counted_tests
  counted e p = record { uncancelled = e; properties = p.0; times = not-false _ p.1.0; content = not-false _ p.1.1.0 }

  by_flag : (c : Bool) → cancelled_of r ≡ c → (c && not (emptied stride r)) ≡ false → Passed (cond c [] (counted_tests stride r))
      → Emptied stride r ⊎ Counted stride r
  unfolding emptied
  by_flag true e h p =
      let q = and_both (filled 255 16 r 8) (filled 0 (8 * stride) r 32) (not-false _ h) in
      inl (record { cancelled = e; timeless = q.0; blank = q.1 })
  by_flag false e h p = inr (counted e p)

  pub sound_record : check_record stride side r ≡ sound → SoundRecord stride r side
  unfolding check_record record_tests reserved_clear
  sound_record e =
      let p = given_passed refused sound refused_apart
      (test 9 (not (eqb (length r) (record_size stride))) ∷ record_tests stride side r) e in
      let q = and_both (ltb (flags_of r) 2) (filled 0 8 r 24) (not-false _ p.1.1.0) in
      record {
        size = eqb-true _ _ (not-false _ p.0);
        kind = not-false _ p.1.0;
        flags = ltb-true _ _ q.0;
        reserved = q.1;
        rest = by_flag (cancelled_of r) refl p.1.1.1.0 p.1.1.1.1;
      }

  passed_rest : Emptied stride r ⊎ Counted stride r
      → ((cancelled_of r && not (emptied stride r)) ≡ false) × Passed (cond (cancelled_of r) [] (counted_tests stride r))
  unfolding emptied counted_tests
  passed_rest (inl m) = (rw (m.cancelled, m.timeless, m.blank), rw m.cancelled tt)
  passed_rest (inr k) = (rw k.uncancelled, rw k.uncancelled (k.properties, (ap not k.times, (ap not k.content, tt))))

  pub record_sound : SoundRecord stride r side → check_record stride side r ≡ sound
  unfolding check_record record_tests reserved_clear
  record_sound h =
      let q = passed_rest h.rest in
      answer_given refused sound (test 9 (not (eqb (length r) (record_size stride))) ∷ record_tests stride side r)
      (ap not (eq-eqb _ _ h.size), (ap not h.kind, (rw (lt-ltb _ _ h.flags, h.reserved), q)))

-- ---- a slice goes by its record's own bytes
-- the check of a feature's record that is delivered to that feature is the check of the record
pub delivered : (stride : ℕ) (feature : List ℕ) (side : ℕ) (r : List ℕ) → length feature ≡ 16
    → check_slice stride feature side (feature ++ r) ≡ check_record stride side r
delivered stride feature side r h =
    let size : eqb (length (feature ++ r)) (slice_size stride) ≡ eqb (length r) (record_size stride) =
    rw (length-append feature r, h)
    (iff (eqb (16 + length r) (slice_size stride)) (eqb (length r) (record_size stride)) (λ e. omega tests) (λ e. omega tests)) in
    slice_is stride feature side (feature ++ r)
    ∙ rw (size, take_at feature r 16 h, drop_at feature r 16 h, bytes_same feature feature refl) (sym (record_is stride side r))

-- a sound slice has its size, is of the feature, and its record is sound
pub record SoundSlice (stride : ℕ) (feature : List ℕ) (side : ℕ) (s : List ℕ) : Type 0 where
  pub size : length s ≡ slice_size stride
  pub named : take 16 s ≡ feature
  pub sound : check_record stride side (drop 16 s) ≡ sound

pub sound_slice : (stride : ℕ) (feature : List ℕ) (side : ℕ) (s : List ℕ) → check_slice stride feature side s ≡ sound
    → SoundSlice stride feature side s
unfolding check_slice slice_tests check_record
sound_slice stride feature side s e =
    let p = given_passed refused sound refused_apart (slice_tests stride feature side s) e in
    let size : length s ≡ slice_size stride = eqb-true _ _ (not-false _ p.0) in
    let rest : length (drop 16 s) ≡ record_size stride = length-drop 16 s ∙ omega arith in
    record {
      size = size;
      named = same_bytes_lem _ _ (not-false _ p.1.0);
      sound = answer_given refused sound
          (test 9 (not (eqb (length (drop 16 s)) (record_size stride))) ∷ record_tests stride side (drop 16 s))
          (ap not (eq-eqb _ _ rest), p.1.1);
    }

pub slice_sound : (stride : ℕ) (feature : List ℕ) (side : ℕ) (s : List ℕ) → SoundSlice stride feature side s
    → check_slice stride feature side s ≡ sound
slice_sound stride feature side s h =
    let size = h.size in
    let rest : length (drop 16 s) ≡ record_size stride = length-drop 16 s ∙ omega arith in
    let alone = sym (record_is stride side (drop 16 s)) ∙ h.sound in
    slice_is stride feature side s ∙ rw (eq-eqb _ _ size, bytes_same _ _ h.named) (rw (eq-eqb _ _ rest) at alone)
