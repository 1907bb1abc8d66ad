-- What any arrival leaves of any table: its header but for the count, and the answers of its check. And what it makes of the
-- records: they are as they were, or have the slice's record put among them. Assumes nothing.
use Prim.Native.Nat.{ℕ}
use mathlib.Core.Path.{◌≡◌, refl, sym, ap, ◌∙◌}
use mathlib.Core.List.{List, [], ◌∷◌}
use mathlib.Core.Bool.{not, ◌&&◌}
use mathlib.Core.Logic.{◌⊎◌, inl, inr, ⊎_elim}
use mathlib.Core.Option.{Option, none, some}
use lib.ListN.{length}
use lib.Dec.{eqb, ltb}
use borrow.Author.Tests.{le-ltb}
use Rattle.laws.specs.Keyed.{stored, put, against}
use Rattle.laws.specs.Refusals.{test}
use Rattle.laws.proofs.Tests.{pick_ind}
use Rattle.numbers.specs.Numbers.{lower_correction}
use Rattle.slice.specs.Record.{record_size, correction_of, key_of, key_less, same_key}
use Rattle.table.specs.Header.{side_of, stride_of, records_of, room_of, written}
use Rattle.table.specs.Rules.{takes, table_tests}
use Rattle.table.specs.Arriving.{record_of, arrived_at}
use Rattle.table.specs.declared.check.Sides.{Sides}
use Rattle.table.specs.declared.check.Sides.TheVariants.{Both}
use Rattle.table.proofs.Sound.{SoundTable, sound_table}
use Rattle.table.proofs.SameHeader.{Alike, same_letters, same_side, same_version, same_reserved, written_alike, written_records}
use Rattle.table.proofs.Stays.{good_sized, within, few, stays, made, Filed, left_or_filed}

-- ---- two sound tables that agree in their headers, the count apart, answer the check alike
module _ (sides : Sides) (t u : List ℕ) (a : Alike t u) (h : SoundTable (stride_of t) Both t)
    (k : SoundTable (stride_of u) Both u) where
  same_tests : table_tests (stride_of u) sides u ≡ table_tests (stride_of t) sides t
  unfolding table_tests
  same_tests i =
      test 1 (ltb (a.long i) 32)
      ∷ test 2 (not (same_letters t u a i && takes sides (same_side t u a i)))
      ∷ test 3 (not (eqb (same_version t u a h.headed i) 1))
      ∷ test 4 (not (same_reserved t u a h.headed i))
      ∷ test 5 ((le-ltb _ _ k.roomy ∙ sym (le-ltb _ _ h.roomy)) i)
      ∷ test 6 ((k.sound ∙ sym h.sound) i)
      ∷ test 7 (not ((k.rising ∙ sym h.rising) i))
      ∷ []

-- ---- a table that the arrival wrote
module _ (t s : List ℕ) (f : Filed t s) where
  abbrev stride : ℕ
  stride = stride_of t

  h : SoundTable stride Both t
  h = sound_table Both t f.sound

  filed_alike : Alike t (written t (made t s))
  filed_alike = written_alike t (made t s) h.headed (within stride Both t h (made t s) f.keeps.all f.keeps.fits)

  filed_tests : (sides : Sides) → table_tests (stride_of (arrived_at t s)) sides (arrived_at t s) ≡ table_tests stride sides t
  filed_tests sides =
      ap (λ (u : List ℕ). table_tests (stride_of u) sides u) f.writes
      ∙ same_tests sides t (written t (made t s)) filed_alike h
      (stays stride Both t h (made t s) f.keeps.all f.keeps.fits f.keeps.up)

  filed_records : records_of (record_size stride) (arrived_at t s) ≡ made t s
  filed_records =
      ap (records_of (record_size stride)) f.writes
      ∙ written_records t (made t s) h.headed (within stride Both t h (made t s) f.keeps.all f.keeps.fits)
      (few stride Both t h (made t s) f.keeps.all f.keeps.fits) (record_size stride)
      (good_sized stride (side_of t) (made t s) f.keeps.all)

-- ---- any arrival
module _ (t s : List ℕ) where
  abbrev size : ℕ
  size = record_size (stride_of t)

  -- the number of bytes, and the header but for the count
  pub arrival_alike : Alike t (arrived_at t s)
  arrival_alike =
      ⊎_elim (λ e. rw e (record { long = refl; front = refl; back = refl })) (λ f. rw f.writes (filed_alike t s f))
      (left_or_filed t s)

  -- every test of the check, for the sides that a call takes
  pub arrival_tests_lem : (sides : Sides)
      → table_tests (stride_of (arrived_at t s)) sides (arrived_at t s) ≡ table_tests (stride_of t) sides t
  arrival_tests_lem sides =
      ⊎_elim (λ e. ap (λ (u : List ℕ). table_tests (stride_of u) sides u) e) (λ f. filed_tests t s f sides) (left_or_filed t s)

  -- the records as they were, or with the slice's record put among them
  abbrev pub LeftOrPut : List (List ℕ) → Type 0
  LeftOrPut rs = (rs ≡ records_of size t) ⊎ (rs ≡ put key_of key_less same_key (record_of s) (records_of size t))

  made_put : LeftOrPut (made t s)
  made_put = go (stored key_of key_less same_key (key_of (record_of s)) (records_of size t))
    where
      go : (o : Option (List ℕ))
          → LeftOrPut (against key_of key_less same_key correction_of lower_correction (room_of size t) (record_of s) (records_of size t) o)
      go none = pick_ind LeftOrPut (eqb (length (records_of size t)) (room_of size t)) (λ _. inl refl) (λ _. inr refl)
      go (some x) =
          pick_ind LeftOrPut (lower_correction (correction_of x) (correction_of (record_of s))) (λ _. inr refl) (λ _. inl refl)

  pub arrival_records : LeftOrPut (records_of size (arrived_at t s))
  arrival_records =
      ⊎_elim (λ e. inl (ap (records_of size) e))
      (λ f. let e = filed_records t s f in ⊎_elim (λ p. inl (e ∙ p)) (λ p. inr (e ∙ p)) made_put)
      (left_or_filed t s)
