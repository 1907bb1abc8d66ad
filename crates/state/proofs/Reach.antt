-- DEMAND 3, SECOND HALF, from bytes: an arrival changes an answer about an instant, or a byte of the record written, only where the
-- instant lies in the reach of the slice or of the stored record of its kind and sequence number. For all tables, slices, instants
-- and buffers: the check of a table answers as before, and the slices whose reach has the instant are as before. Assumes nothing.
use Prim.Native.Nat.{ℕ}
use mathlib.Core.Path.{◌≡◌, refl, sym, ap, ◌∙◌}
use mathlib.Core.List.{List, [], ◌∷◌, ◌++◌, map}
use mathlib.Core.Bool.{false, cond, not}
use mathlib.Core.Logic.{◌⊎◌, inl, inr, ⊎_elim}
use mathlib.Core.Option.{Option, none, some, none-ne-some, some-injective, map-eq-some_iff}
use Rattle.std.specs.Prelude.{Err}
use Rattle.laws.specs.Lists.{any, kept}
use Rattle.laws.specs.Keyed.{stored}
use Rattle.laws.specs.Refusals.{test, refuse}
use Rattle.laws.specs.Replies.{refused_with, accepted_as}
use Rattle.laws.proofs.Tests.{by-test}
use Rattle.laws.proofs.Refusals.{refuse_map}
use Rattle.octets.specs.Bytes.{same_bytes}
use Rattle.numbers.specs.declared.Instant.{Instant}
use Rattle.slice.specs.Record.{record_size, key_of, key_less, same_key, Slice, view_of}
use Rattle.table.specs.Header.{feature_of, stride_of, records_of}
use Rattle.table.specs.Rules.{table_tests}
use Rattle.table.specs.Arriving.{record_of, stored_of, arrived_at}
use Rattle.table.specs.declared.check.Sides.{Sides}
use Rattle.table.specs.declared.check.Sides.TheVariants.{Permanent, Temporary}
use Rattle.table.proofs.SameHeader.{same_feature}
use Rattle.table.proofs.ArrivalEffect.{arrival_alike, arrival_tests_lem, arrival_records}
use Rattle.history.specs.Counted.{slice_key}
use Rattle.history.specs.Permanent.{permanent_at}
use Rattle.history.specs.Snapshot.{passing, snapshot_at}
use Rattle.history.specs.Source.{line, last_mention}
use Rattle.history.specs.Reach.{reaches}
use Rattle.history.specs.Touched.{touches}
use Rattle.history.proofs.Reach.{line_reach, passing_reach, permanent_reach, snapshot_reach, put_reach}
use Rattle.history.proofs.Touched.{touched_near}
use Rattle.state.specs.Asking.{slices_of, permanent_tests, both_tests, misfits, writing_tests, asking_tests, refused_outcome}
use Rattle.state.specs.Asking.{outcome_of, permanent_state_of, snapshot_of, buffered}
use Rattle.state.specs.Touched.{refused_touched, touched_by, touched_of, uncounted, SameTouched}
use Rattle.state.specs.Reach.{Reached, SameState, SameSnapshot, SameProperty}
use Rattle.state.proofs.Slices.{view_key, view_put, view_stored}
use Rattle.state.proofs.PropertyBytes.{source_at, said_at, source_by_lem, said_by_lem}

-- ---- an instant, a table, and a slice that arrives
module _ (at : Instant) (t s : List ℕ) where
  abbrev records : List (List ℕ)
  records = records_of (record_size (stride_of t)) t

  abbrev view : List ℕ → Slice
  view = view_of (stride_of t)

  -- the instant lies in neither reach
  abbrev pub Outside : Type 0
  Outside =
      (reaches at (view (record_of s)) ≡ false)
      × ((x : List ℕ) → stored_of (record_of s) records ≡ some x → reaches at (view x) ≡ false)

  reached_or : Reached at t s ⊎ Outside
  reached_or = by-test (reaches at (view (record_of s))) (λ y. inl (inl y)) (λ n. go n (stored_of (record_of s) records) refl)
    where
      go : reaches at (view (record_of s)) ≡ false → (o : Option (List ℕ)) → stored_of (record_of s) records ≡ o
          → Reached at t s ⊎ Outside
      go n none e = inr (n, λ x q. absurd (none-ne-some x (sym e ∙ q)))
      go n (some y) e =
          by-test (reaches at (view y)) (λ h. inl (inr (y, e, h)))
          (λ h. inr (n, λ x q. ap (λ z. reaches at (view z)) (sym (some-injective y x (sym e ∙ q))) ∙ h))

  -- outside, the slices whose reach has the instant are as they were
  near_same : Outside → kept (reaches at) (slices_of (arrived_at t s)) ≡ kept (reaches at) (slices_of t)
  unfolding slices_of stored_of
  near_same (n, h) =
      ⊎_elim (λ e. ap (λ rs. kept (reaches at) (map view rs)) e)
      (λ e. ap (λ rs. kept (reaches at) (map view rs)) e ∙ ap (kept (reaches at)) (view_put (stride_of t) (record_of s) records)
      ∙ put_reach at (view (record_of s)) (map view records) n there)
      (arrival_records t s)
    where
      there : (x : Slice) → stored slice_key key_less same_key (slice_key (view (record_of s))) (map view records) ≡ some x
          → reaches at x ≡ false
      there x q =
          let (y, e, v) = (map-eq-some_iff view (stored_of (record_of s) records)).0
          (sym (view_stored (stride_of t) (key_of (record_of s)) records) ∙ (rw (view_key (stride_of t) (record_of s)) at q)) in
          ap (reaches at) (sym v) ∙ h y e

-- ---- a table that answers the check as another does and has the same slices in reach
record AsBefore (sides : Sides) (at : Instant) (t u : List ℕ) : Type 0 where
  tests : table_tests (stride_of u) sides u ≡ table_tests (stride_of t) sides t
  feature : feature_of u ≡ feature_of t
  near : kept (reaches at) (slices_of u) ≡ kept (reaches at) (slices_of t)

as_itself : (sides : Sides) (at : Instant) (t : List ℕ) → AsBefore sides at t t
as_itself sides at t = record { tests = refl; feature = refl; near = refl }

as_arrived : (sides : Sides) (at : Instant) (t s : List ℕ) → Outside at t s → AsBefore sides at t (arrived_at t s)
as_arrived sides at t s out = record {
  tests = arrival_tests_lem t s sides;
  feature = same_feature t (arrived_at t s) (arrival_alike t s);
  near = near_same at t s out;
}

-- ---- the answers, and the buffer
module _ (at : Instant) (p p' : List ℕ) (a : AsBefore Permanent at p p') where
  -- the permanent state
  standing : permanent_at at (slices_of p') ≡ permanent_at at (slices_of p)
  standing = permanent_reach at (slices_of p') (slices_of p) a.near

  same_state : (buffer : List ℕ) → SameState at p p' buffer
  unfolding permanent_state_of permanent_tests misfits
  same_state buffer = (answer, λ i. buffered (answer i) (stride_of p) at (standing i) buffer)
    where
      answer : permanent_state_of p' at buffer ≡ permanent_state_of p at buffer
      answer i = refuse refused_outcome (a.tests i ++ writing_tests p at buffer) (outcome_of (standing i))

  module _ (t t' : List ℕ) (b : AsBefore Temporary at t t') where
    same_tests : both_tests p' t' ≡ both_tests p t
    unfolding both_tests permanent_tests
    same_tests i = a.tests i ++ (b.tests i ++ (test 8 (not (same_bytes (a.feature i) (b.feature i))) ∷ []))

    -- the snapshot
    same_snapshot : (buffer : List ℕ) → SameSnapshot at p p' t t' buffer
    unfolding snapshot_of misfits
    same_snapshot buffer = (answer, λ i. buffered (answer i) (stride_of p) at (snapshot i) buffer)
      where
        snapshot : snapshot_at at (slices_of p') (slices_of t') ≡ snapshot_at at (slices_of p) (slices_of t)
        snapshot = snapshot_reach at (slices_of p') (slices_of p) (slices_of t') (slices_of t) a.near b.near

        answer : snapshot_of p' t' at buffer ≡ snapshot_of p t at buffer
        answer i = refuse refused_outcome (same_tests i ++ writing_tests p at buffer) (outcome_of (snapshot i))

    -- property n: from the same table, and the same bytes
    same_property : (n : ℕ) → SameProperty at p p' t t' n
    same_property n = (
      source_by_lem p' t' at n
          ∙ (λ i. refuse (λ k. Err k) (asked i) (source_at (over i) (under i) (standing i)))
          ∙ sym (source_by_lem p t at n),
      said_by_lem p' t' at n ∙ (λ i. refuse (λ k. []) (asked i) (said_at (stride_of p) n (over i) (under i) (standing i)))
          ∙ sym (said_by_lem p t at n),
    )
      where
        asked : both_tests p' t' ++ asking_tests at n ≡ both_tests p t ++ asking_tests at n
        asked i = same_tests i ++ asking_tests at n

        over : last_mention n (passing at (slices_of t')) ≡ last_mention n (passing at (slices_of t))
        over = ap (last_mention n) (passing_reach at (slices_of t') (slices_of t) b.near)

        under : last_mention n (line at (slices_of p')) ≡ last_mention n (line at (slices_of p))
        under = ap (last_mention n) (line_reach at (slices_of p') (slices_of p) a.near)

-- whether anything temporary touches property n, the count apart
module _ (at : Instant) (t t' : List ℕ) (b : AsBefore Temporary at t t') (n : ℕ) where
  answer_by : (u : List ℕ) → uncounted (touched_of u at n)
      ≡ refuse refused_with (table_tests (stride_of u) Temporary u ++ asking_tests at n)
      (cond (any (touches at n) (kept (reaches at) (slices_of u))) (accepted_as 1 0) (accepted_as 2 0))
  unfolding touched_of touched_by
  answer_by u =
      let asked = table_tests (stride_of u) Temporary u ++ asking_tests at n in
      refuse_map uncounted refused_touched refused_with (λ k. refl) asked _
      ∙ ap (refuse refused_with asked)
      (by-test (any (touches at n) (slices_of u)) (λ y. rw (touched_near at n (slices_of u), y))
      (λ q. rw (touched_near at n (slices_of u), q)))

  same_touched : SameTouched at t t' n
  same_touched =
      answer_by t'
      ∙ (λ i. refuse refused_with (b.tests i ++ asking_tests at n)
      (cond (any (touches at n) (b.near i)) (accepted_as 1 0) (accepted_as 2 0)))
      ∙ sym (answer_by t)

-- ---- OUTSIDE REACH nothing changes, and so what changes lies in reach
within : (at : Instant) (t s : List ℕ) {A : Type 0} → (Outside at t s → A) → (A → ⊥) → Reached at t s
within at t s same differs = ⊎_elim (λ r. r) (λ out. absurd (differs (same out))) (reached_or at t s)

module _ (at : Instant) (p s : List ℕ) where
  pub state_changed : (buffer : List ℕ) → (SameState at p (arrived_at p s) buffer → ⊥) → Reached at p s
  state_changed buffer = within at p s (λ out. same_state at p (arrived_at p s) (as_arrived Permanent at p s out) buffer)

  -- the slice arrives at the permanent table
  module _ (t : List ℕ) where
    pub permanent_changed : (buffer : List ℕ) → (SameSnapshot at p (arrived_at p s) t t buffer → ⊥) → Reached at p s
    permanent_changed buffer =
        within at p s
        (λ out. same_snapshot at p (arrived_at p s) (as_arrived Permanent at p s out) t t (as_itself Temporary at t) buffer)

    pub permanent_property : (n : ℕ) → (SameProperty at p (arrived_at p s) t t n → ⊥) → Reached at p s
    permanent_property n =
        within at p s (λ out. same_property at p (arrived_at p s) (as_arrived Permanent at p s out) t t (as_itself Temporary at t) n)

-- it arrives at the temporary table
module _ (at : Instant) (p t s : List ℕ) where
  pub temporary_changed : (buffer : List ℕ) → (SameSnapshot at p p t (arrived_at t s) buffer → ⊥) → Reached at t s
  temporary_changed buffer =
      within at t s
      (λ out. same_snapshot at p p (as_itself Permanent at p) t (arrived_at t s) (as_arrived Temporary at t s out) buffer)

  pub temporary_property : (n : ℕ) → (SameProperty at p p t (arrived_at t s) n → ⊥) → Reached at t s
  temporary_property n =
      within at t s (λ out. same_property at p p (as_itself Permanent at p) t (arrived_at t s) (as_arrived Temporary at t s out) n)

pub touched_changed : (at : Instant) (t s : List ℕ) (n : ℕ) → (SameTouched at t (arrived_at t s) n → ⊥) → Reached at t s
touched_changed at t s n = within at t s (λ out. same_touched at t (arrived_at t s) (as_arrived Temporary at t s out) n)
