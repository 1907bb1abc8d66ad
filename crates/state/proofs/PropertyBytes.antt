-- What the property question hands back goes by the slices alone: which table, and the bytes that the slice says which mentioned
-- the property last. Assumes nothing.
use Prim.Native.Nat.{ℕ, ◌<◌}
use mathlib.Core.Path.{◌≡◌, refl, sym, ap, ◌∙◌}
use mathlib.Core.List.{List, [], ◌++◌}
use mathlib.Core.Bool.{false}
use mathlib.Core.Option.{Option, none, some}
use lib.ListN.{get_or}
use lib.Dec.{ltb}
use Rattle.laws.specs.Refusals.{Test, refuse}
use Rattle.laws.proofs.Tests.{tests, or_neither}
use Rattle.laws.proofs.Refusals.{passed_split, refuse_map, refuse_alike}
use Rattle.numbers.specs.Numbers.{is_none}
use Rattle.numbers.specs.declared.Instant.{Instant}
use Rattle.slice.specs.Record.{unmentioned, Slice}
use Rattle.std.specs.Prelude.{Ok, Err}
use Rattle.table.specs.Header.{stride_of}
use Rattle.table.specs.Rules.{table_tests, check_table}
use Rattle.table.specs.declared.check.Sides.TheVariants.{Permanent, Temporary}
use Rattle.table.proofs.Sound.{sound_table}
use Rattle.history.specs.Permanent.{Standing, refuses, known, permanent_at}
use Rattle.history.specs.Snapshot.{passing}
use Rattle.history.specs.Source.{line, mentions, last_mention}
use Rattle.history.proofs.Parts.{last_in, passing_in}
use Rattle.history.proofs.Line.{line_in}
use Rattle.state.specs.Written.{property_bytes}
use Rattle.state.specs.Asking.{slices_of, permanent_tests, both_tests, asking_tests, refused_place, placed, place_at, place_of}
use Rattle.state.specs.Asking.{source_of, bytes_at}
use Rattle.state.specs.Asking.{Sourced}
use Rattle.state.specs.declared.question.Source.TheVariants as source
use Rattle.state.proofs.Slices.{sound_rising}
use Rattle.state.proofs.PropertyPlace.{place_bytes, tests_sound}

-- ---- by the slices that mentioned the property last in the temporary and in the permanent table
abbrev source_by : Option Slice → Option Slice → Sourced
source_by (some d) v = Ok source.Temporary
source_by none (some d) = Ok source.Permanent
source_by none none = Ok source.Unmentioned

abbrev said_by : ℕ → ℕ → Option Slice → Option Slice → List ℕ
said_by stride n (some d) v = property_bytes stride (get_or d.properties n unmentioned)
said_by stride n none (some d) = property_bytes stride (get_or d.properties n unmentioned)
said_by stride n none none = []

-- and by the standing of the permanent state
abbrev pub source_at : Option Slice → Option Slice → Standing → Sourced
source_at u v (refuses k) = Err k
source_at u v (known s) = source_by u v

abbrev pub said_at : ℕ → ℕ → Option Slice → Option Slice → Standing → List ℕ
said_at stride n u v (refuses k) = []
said_at stride n u v (known s) = said_by stride n u v

module _ (p t : List ℕ) (at : Instant) (n : ℕ) where
  abbrev over : Option Slice
  over = last_mention n (passing at (slices_of t))

  abbrev under : Option Slice
  under = last_mention n (line at (slices_of p))

  abbrev asked : List Test
  asked = both_tests p t ++ asking_tests at n

  placed_source : (u v : Option Slice) → source_of (placed p t n u v) ≡ source_by u v
  placed_source (some d) v = refl
  placed_source none (some d) = refl
  placed_source none none = refl

  standing_source : (st : Standing) → source_of (place_at p t at n st) ≡ source_at over under st
  standing_source (refuses k) = refl
  standing_source (known s) = placed_source over under

  pub source_by_lem : source_of (place_of p t at n) ≡ refuse (λ k. Err k) asked
      (source_at over under (permanent_at at (slices_of p)))
  unfolding place_of
  source_by_lem =
      refuse_map source_of refused_place (λ k. Err k) (λ k. refl) asked _
      ∙ ap (refuse (λ k. Err k) asked) (standing_source (permanent_at at (slices_of p)))

  -- where nothing is refused before the state is looked at
  module _ (sound : check_table Permanent p ≡ Ok tt) (sound' : check_table Temporary t ≡ Ok tt) (h : n < 8) where
    placed_said : (u v : Option Slice) → over ≡ u → under ≡ v → bytes_at p t (placed p t n u v) ≡ said_by (stride_of p) n u v
    unfolding last_mention
    placed_said (some d) v x y =
        let (m, k) = last_in (mentions n) (passing at (slices_of t)) d x in
        sym (place_bytes t (sound_table Temporary t sound').roomy (sound_rising t Temporary sound') n h d
        (passing_in at (slices_of t) d m).0 k)
    placed_said none (some d) x y =
        let (m, k) = last_in (mentions n) (line at (slices_of p)) d y in
        sym (place_bytes p (sound_table Permanent p sound).roomy (sound_rising p Permanent sound) n h d
        (line_in at (slices_of p) d m) k)
    placed_said none none x y = refl

    standing_said : (st : Standing) → bytes_at p t (place_at p t at n st) ≡ said_at (stride_of p) n over under st
    standing_said (refuses k) = refl
    standing_said (known s) = placed_said over under refl refl

  pub said_by_lem : bytes_at p t (place_of p t at n) ≡ refuse (λ k. []) asked
      (said_at (stride_of p) n over under (permanent_at at (slices_of p)))
  unfolding place_of both_tests permanent_tests
  said_by_lem =
      refuse_map (bytes_at p t) refused_place (λ k. []) (λ k. refl) asked _
      ∙ refuse_alike (λ k. []) asked _ _ (λ all.
      let (tables, (i, _)) = passed_split (both_tests p t) (asking_tests at n) all in
      let (a, rest) = passed_split (permanent_tests p) _ tables in
      let (b, _) = passed_split (table_tests (stride_of t) Temporary t) _ rest in
      let low : ltb 7 n ≡ false = (or_neither (is_none at) (ltb 7 n) i).1 in
      standing_said (tests_sound Permanent p a) (tests_sound Temporary t b) (omega tests) (permanent_at at (slices_of p)))
