-- Deliveries to a table, as deliveries to its list of records; and the new table that they begin with. Assumes nothing.
use Prim.Native.Nat.{ℕ, ◌+◌, ◌≤◌}
use mathlib.Core.Path.{◌≡◌, refl, sym, ap, ◌∙◌}
use mathlib.Core.List.{List, [], ◌∷◌, ◌++◌, append_assoc}
use mathlib.Core.Bool.{true}
use mathlib.Core.Logic.{inl, inr}
use native.Mathlib.Nat.{mul-le-mul_right}
use native.Mathlib.Omega.{arith}
use lib.ListN.{length, take, drop, replicate, length-append, length-drop}
use lib.Seq.{take_at, drop_at, drop-drop}
use borrow.Author.Tests.{le-leb}
use Rattle.laws.specs.Lists.{pieces, any, joined}
use Rattle.laws.specs.Keyed.{In, arrived, delivered}
use Rattle.laws.proofs.Lists.{drop_past}
use Rattle.laws.proofs.Pieces.{joined_length}
use Rattle.laws.proofs.Put.{Kept}
use Rattle.octets.specs.Bytes.{filled}
use Rattle.octets.specs.Writing.{bytes_of}
use Rattle.octets.proofs.Readers.{be_whole}
use Rattle.octets.proofs.Runs.{filled_drop}
use Rattle.numbers.specs.Numbers.{lower_correction}
use Rattle.slice.specs.Record.{record_size, correction_of, key_of, key_less, same_key}
use Rattle.slice.specs.Check.{check_slice, Checked}
use Rattle.std.specs.Prelude.{Ok, Err}
use Rattle.slice.proofs.Sound.{sound_slice}
use Rattle.table.specs.Header.{lettered, side_of, count_of, feature_of, stride_of, header_of, room_of, records_of, written}
use Rattle.table.specs.Rules.{fails, in_order, check_table}
use Rattle.table.specs.Arriving.{record_of, filing_of, changed, filed, arrived_at, creation_of, created}
use Rattle.table.specs.Deliveries.{delivered_to, sent_to, holding}
use Rattle.table.specs.declared.check.Sides.TheVariants.{Both}
use Rattle.table.proofs.NewTable.{made_facts}
use Rattle.table.proofs.Sound.{SoundTable, table_sound}
use Rattle.table.proofs.SameHeader.{Alike, same_side, same_feature, same_room, written_alike, written_records, written_over}
use Rattle.table.proofs.Stays.{Good, Up, good_sized, within, few, stays, Changes, filing_changes, left_by_slice, filed_by}
use Rattle.table.proofs.Stays.{arrival_keeps}

-- ---- deliveries to a table that holds records, and to the list of records
module _ (t : List ℕ) (h : SoundTable (stride_of t) Both t) where
  abbrev stride : ℕ
  stride = stride_of t

  abbrev size : ℕ
  size = record_size stride

  abbrev room : ℕ
  room = room_of size t

  -- records that the table may hold
  pub record Fitting (rs : List (List ℕ)) : Type 0 where
    pub good : (r : List ℕ) → In r rs → Good stride (side_of t) r
    pub up : Up rs
    pub fits : length rs ≤ room

  module _ (rs : List (List ℕ)) (f : Fitting rs) where
    inside : 32 + length (joined rs) ≤ length t
    inside = within stride Both t h rs f.good f.fits

    alike : Alike t (written t rs)
    alike = written_alike t rs h.headed inside

    held : records_of size (written t rs) ≡ rs
    held = written_records t rs h.headed inside (few stride Both t h rs f.good f.fits) size
        (good_sized stride (side_of t) rs f.good)

    sound : check_table Both (written t rs) ≡ Ok tt
    sound = table_sound Both (written t rs) (stays stride Both t h rs f.good f.fits f.up)

    -- an arrival there is checked as it would be at t
    checked : (s : List ℕ)
        → check_slice stride (feature_of (written t rs)) (side_of (written t rs)) s ≡ check_slice stride (feature_of t) (side_of t) s
    checked s i = check_slice stride (same_feature t (written t rs) alike i) (same_side t (written t rs) alike i) s

    module _ (s : List ℕ) (d : check_slice stride (feature_of t) (side_of t) s ≡ Ok tt) where
      abbrev us : List (List ℕ)
      us = arrived key_of key_less same_key correction_of lower_correction room (record_of s) rs

      keeps : Kept key_of key_less same_key (Good stride (side_of t)) room rs us
      keeps = arrival_keeps stride (side_of t) room rs (record_of s) f.up f.fits f.good (sound_slice _ _ _ s d).sound

      fitting : Fitting us
      fitting = record { good = keeps.all; up = keeps.up; fits = keeps.fits }

      -- it makes of the table what it makes of the records
      taken : arrived_at (written t rs) s ≡ written t us
      taken = go (filing_changes room (record_of s) rs (written t rs))
        where
          here : arrived_at (written t rs) s ≡ changed (filing_of room (record_of s) rs) (written t rs) (filed (record_of s) rs)
          here =
              filed_by (written t rs) s sound (checked s ∙ d)
              ∙ (λ i. changed (filing_of (same_room t (written t rs) alike size i) (record_of s) (held i)) (written t rs)
              (filed (record_of s) (held i)))

          longer : length (joined rs) ≤ length (joined us)
          longer =
              omega (
                arith,
                joined_length size rs (good_sized stride (side_of t) rs f.good),
                joined_length size us (good_sized stride (side_of t) us keeps.all),
                mul-le-mul_right size keeps.grows,
              )

          go : Changes room (record_of s) rs (written t rs) → arrived_at (written t rs) s ≡ written t us
          go (inl p) = here ∙ p.0 ∙ ap (written t) (sym p.1)
          go (inr p) = here ∙ p ∙ written_over t rs h.headed inside us longer

  -- the records of slices, in the order of their arrival, come to the list of records
  abbrev Delivers : List (List ℕ) → Type 0
  Delivers ss =
      (rs : List (List ℕ)) → Fitting rs
      → delivered_to (written t rs) ss ≡ written t
      (delivered key_of key_less same_key correction_of lower_correction room rs (sent_to stride (feature_of t) (side_of t) ss))

  pub deliveries : (ss : List (List ℕ)) → Delivers ss
  deliveries [] rs f = refl
  deliveries (s ∷ ss) rs f = go (check_slice stride (feature_of t) (side_of t) s) refl (deliveries ss)
    where
      go : (c : Checked) → check_slice stride (feature_of t) (side_of t) s ≡ c → Delivers ss
          → delivered_to (written t rs) (s ∷ ss) ≡ written t
          (delivered key_of key_less same_key correction_of lower_correction room rs (sent_to stride (feature_of t) (side_of t) (s ∷ ss)))
      go (Err x) d more =
          ap (λ (l : List ℕ). delivered_to l ss) (left_by_slice (written t rs) s (sound rs f) x (checked rs f s ∙ d))
          ∙ rw d (more rs f)
      go (Ok _) d more = ap (λ (l : List ℕ). delivered_to l ss) (taken rs f s d) ∙ rw d (more (us rs f s d) (fitting rs f s d))

-- ---- a new table
eight_zeros : (x : List ℕ) → filled 0 8 (replicate 8 0 ++ x) 0 ≡ true
unfolding filled
eight_zeros x = rw (le-leb (0 + 8) (length (replicate 8 0 ++ x)) (omega (arith, length-append (replicate 8 0) x)))

module _ (b : List ℕ) (side : ℕ) (feature : List ℕ) (l : length feature ≡ 16) (made : creation_of b side ≡ Ok tt) where
  abbrev pub new : List ℕ
  new = created (Ok tt) b side feature

  abbrev rest : List ℕ
  rest = drop 32 b

  -- the feature and eight zero bytes
  abbrev tail : List ℕ
  tail = feature ++ replicate 8 0

  tail_length : length tail ≡ 24
  tail_length = length-append feature (replicate 8 0) ∙ omega arith

  head_length : length (header_of side feature 0) ≡ 32
  head_length = omega (arith, tail_length)

  pub new_length : length new ≡ length b
  new_length =
      length-append (header_of side feature 0) rest ∙ omega (arith, head_length, length-drop 32 b, (made_facts b side made).0)

  pub new_room : (size : ℕ) → room_of size new ≡ room_of size b
  unfolding room_of
  new_room size = rw new_length

  pub new_feature : feature_of new ≡ feature
  new_feature = ap (take 16) (append_assoc feature (replicate 8 0) rest) ∙ take_at feature (replicate 8 0 ++ rest) 16 l

  -- what is written into a new table
  pub new_written : (rs : List (List ℕ)) → written new rs ≡ holding b side feature rs
  unfolding written
  new_written rs =
      let p : take 24 (drop 8 new) ≡ tail = take_at tail rest 24 tail_length in
      let q : drop (32 + length (joined rs)) new ≡ drop (32 + length (joined rs)) b =
      drop_past (header_of side feature 0) rest 32 (length (joined rs)) head_length ∙ drop-drop (length (joined rs)) 32 b in
      (λ i. (take 6 new ++ (bytes_of 2 (length rs) ++ p i)) ++ (joined rs ++ q i))

  pub new_empty : written new [] ≡ new
  new_empty = new_written []

  none_counted : count_of new ≡ 0
  none_counted = be_whole 2 new 6 (omega (arith, new_length, (made_facts b side made).0)) ∙ omega arith

  new_records : (size : ℕ) → records_of size new ≡ []
  unfolding records_of
  new_records size = ap (λ (n : ℕ). pieces size n (drop 32 new)) none_counted

  pub new_sound : SoundTable (stride_of new) Both new
  unfolding lettered in_order
  new_sound =
      let long : 32 ≤ length new = omega (arith, new_length, (made_facts b side made).0) in
      let reserved : filled 0 8 new 24 ≡ true =
      sym (filled_drop 0 8 new 24 0 (omega arith))
      ∙ ap (λ (x : List ℕ). filled 0 8 x 0)
      (ap (drop 16) (append_assoc feature (replicate 8 0) rest) ∙ drop_at feature (replicate 8 0 ++ rest) 16 l)
      ∙ eight_zeros rest in
      record {
        headed = long;
        letters = refl;
        side = (made_facts b side made).1;
        version = be_whole 2 new 4 (omega arith) ∙ omega arith;
        reserved = reserved;
        roomy = omega (arith, none_counted);
        sound = ap (any (fails (stride_of new) side)) (new_records (record_size (stride_of new)));
        rising = ap in_order (new_records (record_size (stride_of new)));
      }
