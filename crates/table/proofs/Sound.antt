-- What a sound table is, field by field, and what its soundness and that of a slice leave of an arrival. Assumes nothing.
use Prim.Native.Nat.{ℕ, ◌≤◌}
use mathlib.Core.Path.{◌≡◌, ap, ◌∙◌}
use mathlib.Core.List.{List}
use mathlib.Core.Bool.{true, false, not}
use lib.ListN.{length}
use borrow.Author.Tests.{ltb-false, le-ltb, not-false, eqb-true, eq-eqb}
use Rattle.laws.specs.Lists.{any}
use Rattle.laws.specs.Refusals.{Test, refuse, FirstFails}
use Rattle.laws.proofs.Tests.{and_both}
use Rattle.laws.proofs.Refusals.{refuse_join, answer_given, given_passed, number_given, given_number}
use Rattle.octets.specs.Bytes.{filled}
use Rattle.slice.specs.Record.{record_size}
use Rattle.slice.specs.Check.{refused, slice_tests, check_slice, sound}
use Rattle.std.specs.Prelude.{Err}
use Rattle.slice.proofs.Sound.{refused_apart, refused_tells}
use Rattle.table.specs.Header.{lettered, side_of, version_of, count_of, feature_of, stride_of, room_of, records_of}
use Rattle.table.specs.Rules.{takes, fails, in_order, table_tests, check_table}
use Rattle.table.specs.Arriving.{refused_arrival, record_of, filing_of, arrival_of, Arrived}
use Rattle.table.specs.declared.check.Sides.{Sides}
use Rattle.table.specs.declared.check.Sides.TheVariants.{Both}

-- ---- a sound table
pub record SoundTable (stride : ℕ) (sides : Sides) (t : List ℕ) : Type 0 where
  pub headed : 32 ≤ length t
  pub letters : lettered t ≡ true
  pub side : takes sides (side_of t) ≡ true
  pub version : version_of t ≡ 1
  pub reserved : filled 0 8 t 24 ≡ true
  pub roomy : count_of t ≤ room_of (record_size stride) t
  pub sound : any (fails stride (side_of t)) (records_of (record_size stride) t) ≡ false
  pub rising : in_order (records_of (record_size stride) t) ≡ true

module _ (sides : Sides) (t : List ℕ) where
  pub sound_table : check_table sides t ≡ sound → SoundTable (stride_of t) sides t
  unfolding check_table table_tests
  sound_table e =
      let p = given_passed refused sound refused_apart (table_tests (stride_of t) sides t) e in
      let q = and_both (lettered t) (takes sides (side_of t)) (not-false _ p.1.0) in
      record {
        headed = ltb-false _ _ p.0;
        letters = q.0;
        side = q.1;
        version = eqb-true _ _ (not-false _ p.1.1.0);
        reserved = not-false _ p.1.1.1.0;
        roomy = ltb-false _ _ p.1.1.1.1.0;
        sound = p.1.1.1.1.1.0;
        rising = not-false _ p.1.1.1.1.1.1.0;
      }

  pub table_sound : SoundTable (stride_of t) sides t → check_table sides t ≡ sound
  unfolding check_table table_tests
  table_sound h =
      answer_given refused sound (table_tests (stride_of t) sides t) (
        le-ltb _ _ h.headed,
        (
          rw (h.letters, h.side),
          (ap not (eq-eqb _ _ h.version), (ap not h.reserved, (le-ltb _ _ h.roomy, (h.sound, (ap not h.rising, tt))))),
        ),
      )

-- a table is refused with the number of the first test that it fails, and with no other
module _ (sides : Sides) (t : List ℕ) (n : ℕ) where
  pub table_refused : check_table sides t ≡ refused n → FirstFails n (table_tests (stride_of t) sides t)
  unfolding check_table
  table_refused = given_number refused sound refused_apart refused_tells n (table_tests (stride_of t) sides t)

  pub refused_table : FirstFails n (table_tests (stride_of t) sides t) → check_table sides t ≡ refused n
  unfolding check_table
  refused_table = number_given refused sound n (table_tests (stride_of t) sides t)

-- ---- an arrival goes by the two checks, and then by what is stored
module _ (t s : List ℕ) where
  abbrev filing : Arrived
  filing = filing_of (room_of (record_size (stride_of t)) t) (record_of s) (records_of (record_size (stride_of t)) t)

  abbrev tests_of_slice : List Test
  tests_of_slice = slice_tests (stride_of t) (feature_of t) (side_of t) s

  joined : arrival_of t s ≡ refuse refused_arrival (table_tests (stride_of t) Both t) (refuse refused_arrival tests_of_slice filing)
  unfolding arrival_of
  joined = refuse_join refused_arrival (table_tests (stride_of t) Both t) tests_of_slice filing

  pub table_refuses : (f : ℕ) → check_table Both t ≡ Err f → arrival_of t s ≡ Err f
  unfolding check_table
  table_refuses f e =
      joined ∙ number_given refused_arrival (refuse refused_arrival tests_of_slice filing) f (table_tests (stride_of t) Both t)
      (given_number refused sound refused_apart refused_tells f (table_tests (stride_of t) Both t) e)

  module _ (e : check_table Both t ≡ sound) where
    past : arrival_of t s ≡ refuse refused_arrival tests_of_slice filing
    unfolding check_table
    past =
        joined ∙ answer_given refused_arrival (refuse refused_arrival tests_of_slice filing) (table_tests (stride_of t) Both t)
        (given_passed refused sound refused_apart (table_tests (stride_of t) Both t) e)

    pub slice_refuses : (f : ℕ) → check_slice (stride_of t) (feature_of t) (side_of t) s ≡ Err f
        → arrival_of t s ≡ Err f
    unfolding check_slice
    slice_refuses f d =
        past ∙ number_given refused_arrival filing f tests_of_slice
        (given_number refused sound refused_apart refused_tells f tests_of_slice d)

    pub slice_passes : check_slice (stride_of t) (feature_of t) (side_of t) s ≡ sound → arrival_of t s ≡ filing
    unfolding check_slice
    slice_passes d = past ∙ answer_given refused_arrival filing tests_of_slice (given_passed refused sound refused_apart tests_of_slice d)
