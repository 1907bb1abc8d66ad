-- The derivation, test by test, and the derived table: what an answer with a number tells; that the table is sound, names the same
-- feature, counts its records, and says the derived baselines. Assumes nothing.
use Prim.Native.Nat.{ℕ, ◌≤◌, ◌<◌, ◌+◌, ◌*◌}
use mathlib.Core.Path.{◌≡◌, refl, sym, ap, ◌∙◌}
use mathlib.Core.Bool.{Bool, true, false, cond, true≢false}
use mathlib.Core.List.{List, ◌++◌, map, append_assoc}
use native.Mathlib.Omega.{arith}
use native.Mathlib.Nat.{zero-add}
use lib.ListN.{length, drop, replicate, length-append, length-drop}
use lib.Dec.{ltb}
use lib.Seq.{length-take-le}
use borrow.Author.Tests.{lt-ltb, le-ltb, ltb-false}
use Rattle.laws.specs.Lists.{any, joined}
use Rattle.laws.specs.Refusals.{refuse}
use Rattle.laws.specs.Keyed.{In}
use Rattle.laws.proofs.Tests.{or_neither}
use Rattle.laws.proofs.Pieces.{Sized, joined_length}
use Rattle.laws.proofs.Refusals.{passed_split, passed_answer}
use Rattle.octets.specs.Bytes.{Bytes}
use Rattle.octets.specs.Writing.{pasted}
use Rattle.octets.proofs.Writing.{pasted_then, pasted_whole}
use Rattle.slice.specs.Record.{permanent, record_size, view_of}
use Rattle.std.specs.Prelude.{Ok, Err}
use Rattle.table.specs.Header.{stride_of, count_of, feature_of, room_of, records_of, written, header_of}
use Rattle.table.specs.Rules.{fails, table_tests, check_table, takes}
use Rattle.table.specs.Arriving.{creation_of}
use Rattle.table.specs.Deliveries.{holding}
use Rattle.table.specs.declared.check.Sides.TheVariants.{Permanent, Both}
use Rattle.table.proofs.NewTable.{made}
use Rattle.table.proofs.Sound.{SoundTable, sound_table, table_sound}
use Rattle.table.proofs.Stays.{Good, all_good, good_sized, within, stays}
use Rattle.table.proofs.SameHeader.{Alike, same_side, same_feature, same_room, written_alike, written_count, written_records}
use Rattle.table.proofs.Deliveries.{new, new_feature, new_room, new_written, new_sound}
use Rattle.history.specs.Derived.{two_anchors, derived_baselines}
use Rattle.state.specs.Asking.{slices_of, permanent_tests}
use Rattle.state.proofs.Stages.{check_refuses, check_passes}
use Rattle.state.specs.Written.{nil_unknown}
use Rattle.state.proofs.PropertyPlace.{tests_sound}
use Rattle.baselines.specs.Deriving.{derived_records, deriving_tests, refused_derivation, derivation_of}
use Rattle.baselines.specs.Steps.{counted_of, handed_of}
use Rattle.baselines.proofs.Passes.{derived_views, derived_up}

-- ---- what the first sweep tells
counted_two : (b : Bool) (m n : ℕ) → cond b (refused_derivation 21) (Ok m) ≡ Err n → (b ≡ true) × (n ≡ 21)
counted_two true m n e = (refl, cc)
counted_two false m n e = (cc, cc)

counted_records : (b : Bool) (m n : ℕ) → cond b (refused_derivation 21) (Ok m) ≡ Ok n → (b ≡ false) × (n ≡ m)
counted_records true m n e = (cc, cc)
counted_records false m n e = (refl, cc)

module _ (p : List ℕ) where
  pub told_two : (n : ℕ) → counted_of p ≡ Err n → (two_anchors (slices_of p) ≡ true) × (n ≡ 21)
  unfolding counted_of
  told_two = counted_two (two_anchors (slices_of p)) (length (derived_records p))

  pub told_records : (n : ℕ) → counted_of p ≡ Ok n → (two_anchors (slices_of p) ≡ false) × (n ≡ length (derived_records p))
  unfolding counted_of
  told_records = counted_records (two_anchors (slices_of p)) (length (derived_records p))

-- ---- the tests in their order
module _ (p output : List ℕ) where
  pub table_refused : (f : ℕ) → check_table Permanent p ≡ Err f → Err f ≡ derivation_of p output
  unfolding derivation_of permanent_tests check_table
  table_refused f e =
      sym (check_refuses refused_derivation (table_tests (stride_of p) Permanent p) (deriving_tests p output) _ f e)

  module _ (e : check_table Permanent p ≡ Ok tt) where
    left : derivation_of p output ≡ refuse refused_derivation (deriving_tests p output)
        (Ok (length (derived_records p)))
    unfolding derivation_of permanent_tests check_table
    left = check_passes refused_derivation (table_tests (stride_of p) Permanent p) (deriving_tests p output) _ e

    pub two_refused : two_anchors (slices_of p) ≡ true → refused_derivation 21 ≡ derivation_of p output
    unfolding deriving_tests
    two_refused t = sym (left ∙ rw t)

    module _ (one : two_anchors (slices_of p) ≡ false) (sound : any (fails (stride_of p) permanent) (derived_records p) ≡ false) where
      pub many_refused : 256 < length (derived_records p) → refused_derivation 23 ≡ derivation_of p output
      unfolding deriving_tests
      many_refused h = sym (left ∙ rw (one, sound, lt-ltb _ _ h))

      pub few_left : length (derived_records p) ≤ 256 → handed_of p output ≡ derivation_of p output
      unfolding deriving_tests handed_of
      few_left h = sym (left ∙ rw (one, sound, le-ltb _ _ h))

-- ---- the header
-- it names a feature of 16 bytes
pub feature_long : (t : List ℕ) → 32 ≤ length t → length (feature_of t) ≡ 16
feature_long t h = length-take-le 16 (drop 8 t) (simp length-drop (omega arith))

-- the header and then the records, and every byte beyond them
pub handed : (d feature r : List ℕ) (n : ℕ) → length feature ≡ 16 → 32 + length r ≤ length d
    → pasted (pasted d 0 (header_of permanent feature n)) 32 r ≡ header_of permanent feature n ++ (r ++ drop (32 + length r) d)
handed d feature r n k h =
    let head = header_of permanent feature n in
    let l : length head ≡ 32 = omega (arith, length-append feature (replicate 8 0)) in
    let m : length (head ++ r) ≡ 32 + length r = length-append head r ∙ omega arith in
    pasted_then d head r 0 32 (omega arith) (omega arith)
    ∙ pasted_whole d (head ++ r) 0 (omega arith)
    ∙ ap (λ (m : ℕ). (head ++ r) ++ drop m d) (zero-add (length (head ++ r)) ∙ m)
    ∙ append_assoc head r (drop (32 + length r) d)

-- ---- a derivation that is not refused
pub record Deriving (p output : List ℕ) (n : ℕ) : Type 0 where
  pub table : check_table Permanent p ≡ Ok tt
  pub one : two_anchors (slices_of p) ≡ false
  pub sound : any (fails (stride_of p) permanent) (derived_records p) ≡ false
  pub number : n ≡ length (derived_records p)
  pub few : length (derived_records p) ≤ 256
  pub fits : 32 + length (joined (derived_records p)) ≤ length output

module _ (p output : List ℕ) (n : ℕ) where
  pub derived_told : derivation_of p output ≡ Ok n → Deriving p output n
  unfolding derivation_of deriving_tests permanent_tests
  derived_told e =
      let (passed, same) =
      passed_answer refused_derivation (Ok n) (λ k q. true≢false cc) (permanent_tests p ++ deriving_tests p output)
      (Ok (length (derived_records p))) e in
      let number : length (derived_records p) ≡ n = cc in
      let (table, rest) = passed_split (permanent_tests p) (deriving_tests p output) passed in
      let (many, short) =
      or_neither (ltb 256 (length (derived_records p))) (ltb (length output) (32 + length (joined (derived_records p))))
      rest.1.1.0 in
      record {
        table = tests_sound Permanent p table;
        one = rest.0;
        sound = rest.1.0;
        number = sym number;
        few = ltb-false _ _ many;
        fits = ltb-false _ _ short;
      }

  pub told_derived : Deriving p output n → derivation_of p output ≡ Ok n
  unfolding handed_of
  told_derived d =
      sym (few_left p output d.table d.one d.sound d.few)
      ∙ rw (le-ltb (length output) (32 + length (joined (derived_records p))) d.fits) (ap Ok (sym d.number))

-- ---- the table
module _ (p output : List ℕ) (n : ℕ) (d : Deriving p output n) where
  abbrev pub derived : List ℕ
  derived = holding output permanent (feature_of p) (derived_records p)

  abbrev records : List (List ℕ)
  records = derived_records p

  abbrev size : ℕ
  size = record_size (stride_of p)

  named : length (feature_of p) ≡ 16
  named = feature_long p (sound_table Permanent p d.table).headed

  begun : creation_of output permanent ≡ Ok tt
  begun = made output permanent (omega (arith, d.fits)) refl

  -- the new table in the output, into which the records are written
  abbrev fresh : List ℕ
  fresh = new output permanent (feature_of p) named begun

  fresh_sound : SoundTable (stride_of fresh) Both fresh
  fresh_sound = new_sound output permanent (feature_of p) named begun

  is : written fresh records ≡ derived
  is = new_written output permanent (feature_of p) named begun records

  good : (r : List ℕ) → In r records → Good (stride_of p) permanent r
  good = all_good (stride_of p) permanent records d.sound

  sized : Sized size records
  sized = good_sized (stride_of p) permanent records good

  roomy : length records ≤ room_of size fresh
  unfolding room_of
  roomy =
      let l : length (joined records) ≡ length records * size = joined_length size records sized in
      rw (new_room output permanent (feature_of p) named begun size) (omega (arith, d.few, d.fits))

  inside : 32 + length (joined records) ≤ length fresh
  inside = within (stride_of p) Both fresh fresh_sound records good roomy

  counted : length records < 65536
  counted = omega (arith, d.few)

  alike : Alike fresh (written fresh records)
  alike = written_alike fresh records fresh_sound.headed inside

  -- it names the same feature, counts its records, has room for them and holds them
  pub derived_feature : feature_of derived ≡ feature_of p
  derived_feature = ap feature_of (sym is) ∙ same_feature fresh (written fresh records) alike
      ∙ new_feature output permanent (feature_of p) named begun

  pub derived_counts : count_of derived ≡ n
  derived_counts = ap count_of (sym is) ∙ written_count fresh records fresh_sound.headed inside counted ∙ sym d.number

  pub derived_room : count_of derived ≤ room_of size derived
  derived_room =
      let same : room_of size derived ≡ room_of size fresh =
      ap (room_of size) (sym is) ∙ same_room fresh (written fresh records) alike size in
      omega (arith, same, roomy, derived_counts, d.number)

  pub derived_holds : records_of size derived ≡ records
  derived_holds = ap (records_of size) (sym is) ∙ written_records fresh records fresh_sound.headed inside counted size sized

  module _ (bytes : Bytes p) where
    -- it passes 1 to 7
    pub derived_sound : check_table Permanent derived ≡ Ok tt
    derived_sound =
        let h = stays (stride_of p) Both fresh fresh_sound records good roomy (derived_up p bytes d.table d.few) in
        ap (check_table Permanent) (sym is)
        ∙ table_sound Permanent (written fresh records) (record {
          headed = h.headed;
          letters = h.letters;
          side = ap (takes Permanent) (same_side fresh (written fresh records) alike);
          version = h.version;
          reserved = h.reserved;
          roomy = h.roomy;
          sound = h.sound;
          rising = h.rising;
        })

    -- and says the derived baselines
    pub derived_slices : slices_of derived ≡ derived_baselines (nil_unknown (stride_of p)) (slices_of p)
    unfolding slices_of
    derived_slices = ap (map (view_of (stride_of p))) derived_holds ∙ derived_views p bytes d.table d.few
