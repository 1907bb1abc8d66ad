-- The questions agree: each property of a snapshot is the part of a table that the property question tells of, and where no
-- TEMPDELTA is valid the snapshot is the permanent state. Assumes nothing.
use Prim.Native.Nat.{ℕ, ◌+◌, ◌*◌, ◌<◌}
use mathlib.Core.Path.{◌≡◌, refl, sym, ap, ◌∙◌, subst}
use mathlib.Core.List.{List, [], ◌∷◌, ◌++◌}
use mathlib.Core.Bool.{false, true≢false, not}
use mathlib.Core.Logic.{inl, inr, ⊎_elim}
use mathlib.Core.Option.{Option, none, some}
use native.Mathlib.Omega.{arith}
use lib.ListN.{length, take, drop, get_or}
use borrow.Author.Tests.{le-ltb}
use Rattle.laws.specs.Lists.{kept}
use Rattle.laws.specs.Keyed.{In, sorted}
use Rattle.laws.specs.Refusals.{Test, test, refuse, Passed}
use Rattle.laws.proofs.Refusals.{refuse_join, passed_join, passed_split, passed_answer, answer_given, given_passed}
use Rattle.octets.specs.Bytes.{same_bytes}
use Rattle.octets.proofs.Runs.{bytes_same}
use Rattle.numbers.specs.Numbers.{is_none, lower_sequence, same_sequence}
use Rattle.numbers.specs.declared.Instant.{Instant}
use Rattle.slice.specs.Record.{unmentioned, says, Slice}
use Rattle.slice.specs.Check.{refused}
use Rattle.std.specs.Prelude.{Ok}
use Rattle.slice.proofs.Sound.{refused_apart}
use Rattle.table.specs.Header.{feature_of, stride_of}
use Rattle.table.specs.Rules.{table_tests, check_table}
use Rattle.table.specs.declared.check.Sides.TheVariants.{Permanent, Temporary}
use Rattle.table.proofs.Sound.{sound_table}
use Rattle.history.specs.State.{State, started, applied_all}
use Rattle.history.specs.Permanent.{Standing, refuses, known, permanent_at}
use Rattle.history.specs.Snapshot.{valid, sequence_in, passing, overlaid, snapshot_at}
use Rattle.history.specs.Source.{line, mentions, last_mention}
use Rattle.history.proofs.Parts.{or_else, last_in, last_or, said_in, applied_property, line_property, applied_length, passing_in}
use Rattle.history.proofs.Line.{line_in, known_line, applied_within, line_within}
use Rattle.state.specs.Written.{property_bytes, state_record}
use Rattle.state.specs.Asking.{slices_of, permanent_tests, both_tests, writing_tests, asking_tests, refused_outcome, outcome_of}
use Rattle.state.specs.Asking.{permanent_state_of, snapshot_of, buffered, after_state, after_snapshot, refused_place, placed}
use Rattle.state.specs.Asking.{place_at, place_of, Tells}
use Rattle.state.specs.Asking.{Outcome}
use Rattle.std.specs.Prelude.{Ok}
use Rattle.state.proofs.Slices.{sound_rising, slice_eight, slice_sized}
use Rattle.state.proofs.RecordProperties.{Fits, written_property}
use Rattle.state.proofs.PropertyPlace.{place_bytes, tests_sound}

-- ---- what a snapshot that is written tells
written_apart : (n : ℕ) → refused_outcome n ≡ Ok tt → ⊥
written_apart n e = true≢false cc

module _ (p t : List ℕ) (at : Instant) where
  -- both tables are sound, the tests that come before the property's are passed, and a state is known
  record Answered : Type 0 where
    permanent : check_table Permanent p ≡ Ok tt
    temporary : check_table Temporary t ≡ Ok tt
    tables : Passed (both_tests p t)
    instant : is_none at ≡ false
    standing : outcome_of (snapshot_at at (slices_of p) (slices_of t)) ≡ Ok tt

  answered : (buffer : List ℕ) → snapshot_of p t at buffer ≡ Ok tt → Answered
  unfolding snapshot_of both_tests permanent_tests
  answered buffer e =
      let (all, w) = passed_answer refused_outcome (Ok tt) written_apart (both_tests p t ++ writing_tests p at buffer) _ e in
      let (tables, (i, _)) = passed_split (both_tests p t) (writing_tests p at buffer) all in
      let (a, rest) = passed_split (permanent_tests p) _ tables in
      let (b, _) = passed_split (table_tests (stride_of t) Temporary t) _ rest in
      record {
        permanent = tests_sound Permanent p a;
        temporary = tests_sound Temporary t b;
        tables = tables;
        instant =
            i;
        standing = w;
      }

-- ---- each property of a snapshot is the part that the property question tells of
module _ (p t : List ℕ) (at : Instant) (a : Answered p t at) where
  abbrev temporaries : List Slice
  temporaries = passing at (slices_of t)

  abbrev permanents : List Slice
  permanents = line at (slices_of p)

  abbrev end : State → State
  end s = applied_all s temporaries

  module _ (s : State) (e : permanent_at at (slices_of p) ≡ known s) where
    end_fits : Fits (stride_of p) (end s).properties
    end_fits b m =
        let (c, ds, l, q) = known_line at (slices_of p) s e in
        ⊎_elim (λ n. let (d, k, x) = line_within c ds (says b) (subst (λ u. In (says b) u.properties) q n) in
        slice_sized p Permanent a.permanent d (line_in at (slices_of p) d (subst (λ u. In d u) (sym l) k)) b x)
        (λ (d, k, x). slice_sized t Temporary a.temporary d (passing_in at (slices_of t) d k).0 b x)
        (applied_within temporaries s (says b) m)

    end_length : length (end s).properties ≡ 8
    end_length =
        let (c, ds, l, q) = known_line at (slices_of p) s e in
        let eight : (d : Slice) → In d (c ∷ ds) → length d.properties ≡ 8 =
        λ d k. slice_eight p d (line_in at (slices_of p) d (subst (λ u. In d u) (sym l) k)) in
        applied_length 8 temporaries s
        (ap (λ u. length u.properties) q ∙ applied_length 8 ds (started c) (eight c (inl refl)) (λ d k. eight d (inr k)))
        (λ d k. slice_eight t d (passing_in at (slices_of t) d k).0)

    module _ (n : ℕ) (h : n < 8) where
      end_said : get_or (end s).properties n unmentioned ≡ said_in n (or_else (last_mention n temporaries) (last_mention n permanents))
      unfolding last_mention
      end_said =
          let (c, ds, l, q) = known_line at (slices_of p) s e in
          let anchored : get_or s.properties n unmentioned ≡ said_in n (last_mention n permanents) =
          ap (λ u. get_or u.properties n unmentioned) q ∙ line_property n c ds ∙ ap (λ u. said_in n (last_mention n u)) (sym l) in
          applied_property n temporaries s (last_mention n permanents) anchored
          ∙ ap (said_in n) (last_or (mentions n) (last_mention n permanents) temporaries)

      told : (u v : Option Slice) → last_mention n temporaries ≡ u → last_mention n permanents ≡ v
          → Tells p t (property_bytes (stride_of p) (said_in n (or_else u v))) (placed p t n u v)
      unfolding last_mention
      told (some d) v x y =
          let (m, k) = last_in (mentions n) temporaries d x in
          place_bytes t (sound_table Temporary t a.temporary).roomy (sound_rising t Temporary a.temporary) n h d
          (passing_in at (slices_of t) d m).0 k
      told none (some d) x y =
          let (m, k) = last_in (mentions n) permanents d y in
          place_bytes p (sound_table Permanent p a.permanent).roomy (sound_rising p Permanent a.permanent) n h d
          (line_in at (slices_of p) d m) k
      told none none x y = refl

      end_tells : Tells p t (take (stride_of p) (drop (32 + n * stride_of p) (state_record (stride_of p) at (end s))))
          (placed p t n (last_mention n temporaries) (last_mention n permanents))
      end_tells =
          subst (λ b. Tells p t b (placed p t n (last_mention n temporaries) (last_mention n permanents)))
          (sym (written_property (stride_of p) (omega arith) at (end s) end_fits n (rw end_length h)
          ∙ ap (property_bytes (stride_of p)) end_said))
          (told (last_mention n temporaries) (last_mention n permanents) refl refl)

  known_tells : (buffer : List ℕ) (n : ℕ) → n < 8 → (st : Standing) → permanent_at at (slices_of p) ≡ st
      → outcome_of (overlaid temporaries st) ≡ Ok tt
      → Tells p t
      (take (stride_of p) (drop (32 + n * stride_of p) (buffered (Ok tt) (stride_of p) at (overlaid temporaries st) buffer)))
      (place_at p t at n st)
  known_tells buffer n h (refuses k) e w = absurd (written_apart k w)
  known_tells buffer n h (known s) e w = end_tells s e n h

module _ (p t : List ℕ) (at : Instant) (buffer : List ℕ) (e : snapshot_of p t at buffer ≡ Ok tt) (n : ℕ) (h : n < 8) where
  place_known : place_of p t at n ≡ place_at p t at n (permanent_at at (slices_of p))
  unfolding place_of
  place_known =
      let a = answered p t at buffer e in
      answer_given refused_place _ (both_tests p t ++ asking_tests at n)
      (passed_join (both_tests p t) (asking_tests at n) a.tables (rw a.instant (le-ltb 7 n (omega arith)), tt))

  -- SNAPSHOT AND PROPERTY AGREE: property n of the record that a snapshot writes
  pub property_agrees : Tells p t
      (take (stride_of p) (drop (32 + n * stride_of p) (after_snapshot (snapshot_of p t at buffer) p t at buffer))) (place_of p t at n)
  unfolding snapshot_at
  property_agrees =
      let a = answered p t at buffer e in
      rw (e, place_known) (known_tells p t at a buffer n h (permanent_at at (slices_of p)) refl a.standing)

-- ---- where no TEMPDELTA is valid
overlaid_none : (st : Standing) → overlaid [] st ≡ st
overlaid_none (refuses k) = refl
overlaid_none (known s) = refl

module _ (p t : List ℕ) (at : Instant) (buffer : List ℕ) (sound : check_table Temporary t ≡ Ok tt)
    (named : feature_of p ≡ feature_of t) (quiet : kept (valid at) (slices_of t) ≡ []) where
  same_standing : snapshot_at at (slices_of p) (slices_of t) ≡ permanent_at at (slices_of p)
  unfolding snapshot_at passing
  same_standing =
      ap (λ l. overlaid (sorted sequence_in lower_sequence same_sequence l) (permanent_at at (slices_of p))) quiet
      ∙ overlaid_none (permanent_at at (slices_of p))

  same_answer : snapshot_of p t at buffer ≡ permanent_state_of p at buffer
  unfolding snapshot_of both_tests permanent_state_of check_table
  same_answer =
      let late : List Test = table_tests (stride_of t) Temporary t ++ (test 8 (not (same_bytes (feature_of p) (feature_of t))) ∷ []) in
      let answer : Outcome = outcome_of (snapshot_at at (slices_of p) (slices_of t)) in
      let passed : Passed late =
      passed_join (table_tests (stride_of t) Temporary t) _
      (given_passed refused (Ok tt) refused_apart (table_tests (stride_of t) Temporary t) sound)
      (ap not (bytes_same (feature_of p) (feature_of t) named), tt) in
      refuse_join refused_outcome (permanent_tests p ++ late) (writing_tests p at buffer) answer
      ∙ refuse_join refused_outcome (permanent_tests p) late (refuse refused_outcome (writing_tests p at buffer) answer)
      ∙ ap (refuse refused_outcome (permanent_tests p))
      (answer_given refused_outcome (refuse refused_outcome (writing_tests p at buffer) answer) late passed)
      ∙ sym (refuse_join refused_outcome (permanent_tests p) (writing_tests p at buffer) answer)
      ∙ ap (λ st. refuse refused_outcome (permanent_tests p ++ writing_tests p at buffer) (outcome_of st)) same_standing

  -- THE SNAPSHOT IS THE PERMANENT STATE
  pub quiet_snapshot : (snapshot_of p t at buffer ≡ permanent_state_of p at buffer)
      × (after_snapshot (snapshot_of p t at buffer) p t at buffer ≡ after_state (permanent_state_of p at buffer) p at buffer)
  quiet_snapshot = (same_answer, λ i. buffered (same_answer i) (stride_of p) at (same_standing i) buffer)
