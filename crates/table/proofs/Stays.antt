-- A table that passes 1 to 7 still passes after any arrival. Assumes nothing.
use Prim.Native.Nat.{ℕ, ◌+◌, ◌≤◌, ◌<◌}
use mathlib.Core.Path.{◌≡◌, refl, sym, ap, ◌∙◌}
use mathlib.Core.List.{List}
use mathlib.Core.Bool.{true, false}
use mathlib.Core.Option.{Option, none, some}
use mathlib.Core.Logic.{◌⊎◌, inl, inr, ⊎_elim}
use native.Mathlib.Nat.{zero-mul}
use native.Mathlib.Omega.{arith}
use lib.ListN.{length}
use lib.Dec.{eqb}
use borrow.Author.Tests.{eqb-true, eqb-false}
use Rattle.laws.specs.Lists.{any, joined}
use Rattle.laws.specs.Keyed.{In, Rising, arrived, against}
use Rattle.laws.proofs.Tests.{by-test}
use Rattle.laws.proofs.Lists.{any_none, none_any}
use Rattle.laws.proofs.Pieces.{Sized, joined_length}
use Rattle.laws.proofs.Places.{rises_rising, rising_rises}
use Rattle.laws.proofs.Put.{Kept, arrived_kept}
use Rattle.octets.specs.Bytes.{same_bytes}
use Rattle.numbers.specs.Numbers.{lower_correction}
use Rattle.slice.specs.Record.{record_size, correction_of, key_of, key_less, same_key}
use Rattle.slice.specs.Check.{check_record, check_slice, Checked}
use Rattle.std.specs.Prelude.{Ok, Err}
use Rattle.slice.proofs.Keys.{key_order}
use Rattle.slice.proofs.Sound.{SoundRecord, sound_record, sound_slice}
use Rattle.table.specs.Header.{side_of, feature_of, stride_of, room_of, records_of, written}
use Rattle.table.specs.Rules.{takes, is_refused, fails, in_order, check_table}
use Rattle.table.specs.Arriving.{record_of, stored_of, filing_of, arrival_of, changed, filed, arrived_at, Arrived}
use Rattle.table.specs.declared.check.Sides.{Sides}
use Rattle.table.specs.declared.check.Sides.TheVariants.{Both}
use Rattle.table.proofs.Records.{room_fits, room_most, records_length}
use Rattle.table.proofs.Sound.{SoundTable, sound_table, table_sound, table_refuses, slice_refuses, slice_passes}
use Rattle.table.proofs.Answers.{is_replaced, is_superseded, is_repeat, is_17, filing_held, filing_full, filing_new}
use Rattle.table.proofs.SameHeader.{same_letters, same_side, same_version, same_reserved, same_room, written_alike}
use Rattle.table.proofs.SameHeader.{written_count, written_records}

-- ---- records that pass 11 to 16
module _ (stride side : ℕ) where
  abbrev pub Good : List ℕ → Type 0
  Good r = check_record stride side r ≡ Ok tt

  passed : (c : Checked) → is_refused c ≡ false → c ≡ Ok tt
  passed (Ok _) e = refl
  passed (Err f) e = cc

  pub all_good : (rs : List (List ℕ)) → any (fails stride side) rs ≡ false → (r : List ℕ) → In r rs → Good r
  unfolding fails
  all_good rs e r m = passed (check_record stride side r) (any_none (fails stride side) rs e r m)

  pub good_all : (rs : List (List ℕ)) → ((r : List ℕ) → In r rs → Good r) → any (fails stride side) rs ≡ false
  unfolding fails
  good_all rs g = none_any (fails stride side) rs (λ r m. ap is_refused (g r m))

  pub good_sized : (rs : List (List ℕ)) → ((r : List ℕ) → In r rs → Good r) → Sized (record_size stride) rs
  good_sized rs g r m = (sound_record stride side r (g r m)).size

-- each record of a sound table is sound
pub sound_in : (sides : Sides) (t : List ℕ) → check_table sides t ≡ Ok tt → (r : List ℕ)
    → In r (records_of (record_size (stride_of t)) t) → SoundRecord (stride_of t) r (side_of t)
sound_in sides t e r m =
    sound_record (stride_of t) (side_of t) r
    (all_good (stride_of t) (side_of t) (records_of (record_size (stride_of t)) t) (sound_table sides t e).sound r m)

-- strictly rising by key, as a test and as a fact
abbrev pub Up : List (List ℕ) → Type 0
Up = Rising key_of key_less same_key

pub in_order_lem : (rs : List (List ℕ)) → Up rs → in_order rs ≡ true
unfolding in_order
in_order_lem rs up = rising_rises key_of key_less same_key key_order rs up

pub order_in : (rs : List (List ℕ)) → in_order rs ≡ true → Up rs
unfolding in_order
order_in rs e = rises_rising key_of key_less same_key key_order rs e

-- ---- records written into a sound table
module _ (stride : ℕ) (sides : Sides) (t : List ℕ) (h : SoundTable stride sides t) where
  abbrev size : ℕ
  size = record_size stride

  module _ (us : List (List ℕ)) (g : (r : List ℕ) → In r us → Good stride (side_of t) r) (fits : length us ≤ room_of size t) where
    sized : Sized size us
    sized = good_sized stride (side_of t) us g

    pub within : 32 + length (joined us) ≤ length t
    within =
        rw (joined_length size us sized)
        (by-test (eqb (length us) 0) (λ e. rw (eqb-true (length us) 0 e, zero-mul size) h.headed)
        (λ e. room_fits size t (length us) (omega (arith, eqb-false (length us) 0 e)) fits))

    pub few : length us < 65536
    few = omega (arith, room_most size t)

    pub stays : Up us → SoundTable stride sides (written t us)
    stays up =
        let a = written_alike t us h.headed within in
        let held = written_records t us h.headed within few size sized in
        let side = same_side t (written t us) a in
        record {
          headed = omega (arith, a.long, h.headed);
          letters = same_letters t (written t us) a ∙ h.letters;
          side = ap (takes sides) side ∙ h.side;
          version = same_version t (written t us) a h.headed ∙ h.version;
          reserved = same_reserved t (written t us) a h.headed ∙ h.reserved;
          roomy = omega (arith, written_count t us h.headed within few, same_room t (written t us) a size);
          sound = (λ i. any (fails stride (side i)) (held i)) ∙ good_all stride (side_of t) us g;
          rising = ap in_order held ∙ in_order_lem us up;
        }

-- ---- an arrival, as a change of the list of records
module _ (room : ℕ) (r : List ℕ) (rs : List (List ℕ)) (t : List ℕ) where
  abbrev after_arrival : List (List ℕ)
  after_arrival = arrived key_of key_less same_key correction_of lower_correction room r rs

  -- the table is left alone and so are the records, or the table is written with the records that the arrival makes
  abbrev pub Changes : Type 0
  Changes =
      ((changed (filing_of room r rs) t (filed r rs) ≡ t) × (after_arrival ≡ rs))
      ⊎ (changed (filing_of room r rs) t (filed r rs) ≡ written t after_arrival)

  -- what an answer makes of the table
  answered : (a : Arrived) → filing_of room r rs ≡ a → changed (filing_of room r rs) t (filed r rs) ≡ changed a t (filed r rs)
  answered a e = ap (λ (x : Arrived). changed x t (filed r rs)) e

  -- and what the stored record makes of the records
  stored_makes : (o : Option (List ℕ)) → stored_of r rs ≡ o
      → after_arrival ≡ against key_of key_less same_key correction_of lower_correction room r rs o
  unfolding stored_of
  stored_makes o e = ap (against key_of key_less same_key correction_of lower_correction room r rs) e

  left_alone : (a : Arrived) → filing_of room r rs ≡ a → changed a t (filed r rs) ≡ t → after_arrival ≡ rs → Changes
  left_alone a e c k = inl (answered a e ∙ c, k)

  put_there : (a : Arrived) → filing_of room r rs ≡ a → changed a t (filed r rs) ≡ written t (filed r rs)
      → after_arrival ≡ filed r rs → Changes
  put_there a e c k = inr (answered a e ∙ c ∙ ap (written t) (sym k))

  pub filing_changes : Changes
  unfolding filed
  filing_changes = go (stored_of r rs) refl
    where
      go : (o : Option (List ℕ)) → stored_of r rs ≡ o → Changes
      go none e =
          by-test (eqb (length rs) room)
          (λ f. left_alone _ (filing_full room r rs e (eqb-true _ _ f)) refl (stored_makes none e ∙ rw f))
          (λ f. put_there _ (filing_new room r rs e (eqb-false _ _ f)) refl (stored_makes none e ∙ rw f))
      go (some x) e =
          by-test (lower_correction (correction_of x) (correction_of r))
          (λ f. put_there _ (filing_held room r rs x e ∙ is_replaced r x f) refl (stored_makes (some x) e ∙ rw f))
          (λ f. by-test (lower_correction (correction_of r) (correction_of x))
          (λ k. left_alone _ (filing_held room r rs x e ∙ is_superseded r x f k) refl (stored_makes (some x) e ∙ rw f))
          (λ k. by-test (same_bytes r x)
          (λ b. left_alone _ (filing_held room r rs x e ∙ is_repeat r x f k b) refl (stored_makes (some x) e ∙ rw f))
          (λ b. left_alone _ (filing_held room r rs x e ∙ is_17 r x f k b) refl (stored_makes (some x) e ∙ rw f))))

-- ---- the table after an arrival, by the two checks
module _ (t s : List ℕ) where
  abbrev room : ℕ
  room = room_of (record_size (stride_of t)) t

  abbrev stored_records : List (List ℕ)
  stored_records = records_of (record_size (stride_of t)) t

  by_answer : (a : Arrived) → arrival_of t s ≡ a → arrived_at t s ≡ changed a t (filed (record_of s) stored_records)
  by_answer a e = ap (λ (x : Arrived). changed x t (filed (record_of s) stored_records)) e

  pub left_by_table : (f : ℕ) → check_table Both t ≡ Err f → arrived_at t s ≡ t
  left_by_table f e = by_answer _ (table_refuses t s f e)

  module _ (e : check_table Both t ≡ Ok tt) where
    pub left_by_slice : (f : ℕ) → check_slice (stride_of t) (feature_of t) (side_of t) s ≡ Err f → arrived_at t s ≡ t
    left_by_slice f d = by_answer _ (slice_refuses t s e f d)

    pub filed_by : check_slice (stride_of t) (feature_of t) (side_of t) s ≡ Ok tt
        → arrived_at t s ≡ changed (filing_of room (record_of s) stored_records) t (filed (record_of s) stored_records)
    filed_by d = by_answer _ (slice_passes t s e d)

-- what an arrival of a good record keeps of good records that rise and fit
pub arrival_keeps : (stride side room : ℕ) (rs : List (List ℕ)) (r : List ℕ) → Up rs → length rs ≤ room
    → ((x : List ℕ) → In x rs → Good stride side x) → Good stride side r
    → Kept key_of key_less same_key (Good stride side) room rs (arrived key_of key_less same_key correction_of lower_correction room r rs)
arrival_keeps stride side room rs r up h g d =
    arrived_kept key_of key_less same_key key_order correction_of lower_correction (Good stride side) room rs r up h g d

-- ---- what an arrival does, whatever the table and the slice
module _ (t s : List ℕ) where
  -- the records that it makes of the stored ones
  abbrev pub made : List (List ℕ)
  made = arrived key_of key_less same_key correction_of lower_correction (room t s) (record_of s) (stored_records t s)

  -- a sound table, written with them
  pub record Filed : Type 0 where
    pub sound : check_table Both t ≡ Ok tt
    pub writes : arrived_at t s ≡ written t made
    pub keeps : Kept key_of key_less same_key (Good (stride_of t) (side_of t)) (room t s) (stored_records t s) made

  -- the table is left as it was, or is written with them
  pub left_or_filed : (arrived_at t s ≡ t) ⊎ Filed
  left_or_filed = go (check_table Both t) refl
    where
      by_slice : check_table Both t ≡ Ok tt → (c : Checked) → check_slice (stride_of t) (feature_of t) (side_of t) s ≡ c
          → (arrived_at t s ≡ t) ⊎ Filed
      by_slice e (Err f) d = inl (left_by_slice t s e f d)
      by_slice e (Ok _) d =
          ⊎_elim (λ p. inl (filed_by t s e d ∙ p.0)) (λ p. inr (record { sound = e; writes = filed_by t s e d ∙ p; keeps = k }))
          (filing_changes (room t s) (record_of s) (stored_records t s) t)
        where
          h : SoundTable (stride_of t) Both t
          h = sound_table Both t e

          k : Kept key_of key_less same_key (Good (stride_of t) (side_of t)) (room t s) (stored_records t s) made
          k =
              arrival_keeps (stride_of t) (side_of t) (room t s) (stored_records t s) (record_of s) (order_in _ h.rising)
              (omega (arith, h.roomy, records_length (record_size (stride_of t)) t))
              (all_good (stride_of t) (side_of t) (stored_records t s) h.sound) (sound_slice _ _ _ s d).sound

      go : (c : Checked) → check_table Both t ≡ c → (arrived_at t s ≡ t) ⊎ Filed
      go (Err f) e = inl (left_by_table t s f e)
      go (Ok _) e = by_slice e (check_slice (stride_of t) (feature_of t) (side_of t) s) refl

-- STILL SOUND: a table that passes 1 to 7, for the sides that a call takes, passes them after the arrival of any slice
pub still_sound : (sides : Sides) (t s : List ℕ) → check_table sides t ≡ Ok tt → check_table sides (arrived_at t s) ≡ Ok tt
still_sound sides t s sound =
    ⊎_elim (λ e. ap (check_table sides) e ∙ sound)
    (λ f. let k = f.keeps in
    ap (check_table sides) f.writes
    ∙ table_sound sides _ (stays (stride_of t) sides t (sound_table sides t sound) _ k.all k.fits k.up))
    (left_or_filed t s)
