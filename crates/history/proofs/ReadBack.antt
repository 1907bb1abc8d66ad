-- Derived BASELINEs read back: at each instant they have the state of the slices they derive from, as it is written, and 20 where
-- there was none. Assumes nothing.
use Prim.Native.Nat.{ℕ, suc, ◌≤◌, ◌<◌}
use mathlib.Core.Path.{◌≡◌, refl, sym, ap, ◌∙◌}
use mathlib.Core.List.{List, [], ◌∷◌, ◌++◌, map, append-nil}
use mathlib.Core.Bool.{Bool, true, false, cond, ◌&&◌, and-false}
use mathlib.Core.Logic.{◌⊎◌, inl, inr, ⊎_elim}
use Rattle.laws.specs.Lists.{kept}
use Rattle.laws.specs.Keyed.{In}
use Rattle.laws.proofs.Tests.{tests, pick_ind, by-test}
use Rattle.laws.proofs.Lists.{any_none}
use Rattle.numbers.specs.Numbers.{no_instant, before, at_most}
use Rattle.numbers.specs.declared.Instant.{Instant}
use Rattle.slice.specs.Record.{baseline, permdelta, Slice}
use Rattle.history.specs.Counted.{counts, holds}
use Rattle.history.specs.Anchor.{stands, opens, Anchor, based, opened, nowhere, two, only, anchor}
use Rattle.history.specs.State.{State, started, applied_all}
use Rattle.history.specs.Permanent.{follows, following, Standing, refuses, known, withdrawn, unless_withdrawn, reached}
use Rattle.history.specs.Permanent.{standing_from, permanent_at}
use Rattle.history.specs.Changes.{change_instants, next_of}
use Rattle.history.specs.Derived.{has_two, two_anchors, Stretch, stretch, stretches_from, stretches, baseline_of, numbered_from}
use Rattle.history.specs.Derived.{derived_baselines, as_written, read_back}
use Rattle.history.proofs.Line.{known_apart, known_same}
use Rattle.history.proofs.Selection.{kept_same, kept_none, kept_append}
use Rattle.history.proofs.Changes.{Risen, changes_rising, next_least}
use Rattle.history.proofs.Stretches.{stretched, numbered_in}
use Rattle.history.proofs.Periods.{until_derived}
use Rattle.history.proofs.Steady.{Timely, Alike, permanent_same, permanent_none}

-- ---- which of them t lies in
abbrev current : Instant → Stretch → Bool
current t s = holds t s.period.begin s.period.end

module _ (slices : List Slice) (t : Instant) where
  none_early : (us : List Instant) → ((x : Instant) → In x us → t.0 < x.0) → kept (current t) (stretches_from slices us) ≡ []
  unfolding holds at_most
  none_early us early =
      kept_none (current t) (stretches_from slices us)
      (λ s m. let p : at_most s.period.begin t ≡ false =
      omega (tests, early s.period.begin (stretched slices us s m).begins) in rw p)

  first-kept : (u : Instant) (us : List Instant) (b : Bool) → holds t u (next_of us) ≡ b
      → kept (current t) (stretches_from slices (u ∷ us))
      ≡ cond b (stretch u (next_of us) (permanent_at u slices)) [] ++ kept (current t) (stretches_from slices us)
  first-kept u us b e =
      kept_append (current t) (stretch u (next_of us) (permanent_at u slices)) (stretches_from slices us)
      ∙ ap (λ l. l ++ kept (current t) (stretches_from slices us)) (go (permanent_at u slices) b e)
    where
      go : (v : Standing) (b : Bool) → holds t u (next_of us) ≡ b
          → kept (current t) (stretch u (next_of us) v) ≡ cond b (stretch u (next_of us) v) []
      go (refuses n) true e = refl
      go (refuses n) false e = refl
      go (known s) b e = rw e

  -- of some instants, the last at or before t: t lies in the stretch from there alone, if there is one
  record Last (us : List Instant) : Type 0 where
    from : Instant
    next : Instant
    one : In from us
    by : from.0 ≤ t.0
    alike : Alike us t from
    alone : kept (current t) (stretches_from slices us) ≡ stretch from next (permanent_at from slices)

  -- t lies before all the instants, or there is a last at or before it
  abbrev Settled : List Instant → Type 0
  Settled us = ((x : Instant) → In x us → t.0 < x.0) ⊎ Last us

  settle : t.0 < no_instant → (us : List Instant) → Risen us → Settled us
  unfolding holds at_most before
  settle lt [] up = inl (λ x m. absurd m)
  settle lt (u ∷ us) (low, up) =
      by-test (before t u) (λ y. inl (λ x. ⊎_elim (λ e. omega (tests, ap (λ i. i.0) e)) (λ m. omega (tests, low x m))))
      (λ n. inr (go (omega tests) (settle lt us up)))
    where
      both : (x v : Instant) → x.0 ≤ t.0 → x.0 ≤ v.0 → at_most x t ≡ at_most x v
      both x v h k = let p : at_most x t ≡ true = omega tests in let q : at_most x v ≡ true = omega tests in p ∙ sym q

      neither : (x v : Instant) → t.0 < x.0 → v.0 < x.0 → at_most x t ≡ at_most x v
      neither x v h k = let p : at_most x t ≡ false = omega tests in let q : at_most x v ≡ false = omega tests in p ∙ sym q

      runs_on : (us : List Instant) → ((x : Instant) → In x us → t.0 < x.0) → before t (next_of us) ≡ true
      runs_on [] early = omega tests
      runs_on (x ∷ us) early = omega (tests, early x (inl refl))

      go : u.0 ≤ t.0 → Settled us → Last (u ∷ us)
      go l (inl early) = record {
        from = u;
        next = next_of us;
        one = inl refl;
        by = l;
        alike = λ x. ⊎_elim (λ e. both x u (omega (tests, ap (λ i. i.0) e)) (omega (tests, ap (λ i. i.0) e)))
            (λ m. neither x u (early x m) (omega (tests, low x m)));
        alone = let p : at_most u t ≡ true = omega tests in
            let first = stretch u (next_of us) (permanent_at u slices) in
            first-kept u us true (rw (p, runs_on us early)) ∙ ap (λ k. first ++ k) (none_early us early) ∙ append-nil first;
      }
      go l (inr h) = record {
        from = h.from;
        next = h.next;
        one = inr h.one;
        by = h.by;
        alike = λ x. ⊎_elim
            (λ e. both x h.from (omega (tests, ap (λ i. i.0) e)) (omega (tests, low h.from h.one, ap (λ i. i.0) e)))
            (h.alike x);
        alone = let p : before t (next_of us) ≡ false = omega (tests, h.by, next_least us up h.from h.one) in
            first-kept u us false (rw p (and-false (at_most u t))) ∙ h.alone;
      }

-- ---- the BASELINEs of stretches
-- one holds at t, by its own period
abbrev holding : Instant → Slice → Bool
holding t b = counts baseline b && holds t b.period.begin b.period.end

-- what they answer, by the states of those that hold
abbrev lone : Instant → List State → Standing
lone t [] = refuses 20
lone t (s ∷ []) = unless_withdrawn t s
lone t (s ∷ s' ∷ ss) = refuses 21

module _ (unknown : List ℕ) where
  -- those that hold at t give the states of the stretches that t lies in, as they are written
  numbered_kept : (t : Instant) (n : ℕ) (l : List Stretch)
      → map started (kept (holding t) (numbered_from unknown n l))
      ≡ map (λ s. as_written unknown s.state) (kept (current t) l)
  unfolding counts baseline_of as_written
  numbered_kept t n [] = refl
  numbered_kept t n (s ∷ l) =
      by-test (current t s) (λ y. rw y (ap (λ k. as_written unknown s.state ∷ k) (numbered_kept t (suc n) l)))
      (λ f. rw f (numbered_kept t (suc n) l))

  module _ (slices : List Slice) (t : Instant) where
    abbrev derived : List Slice
    derived = derived_baselines unknown slices

    no_delta : (b : Slice) → In b derived → counts permdelta b ≡ false
    unfolding counts derived_baselines baseline_of
    no_delta b m = let (k, s, i, e) = numbered_in unknown 1 (stretches slices) b m in rw e

    derived_opens : kept (opens t) derived ≡ []
    unfolding opens
    derived_opens = kept_none (opens t) derived (λ b m. rw (no_delta b m))

    derived_follows : (a : Anchor) → following t derived a ≡ []
    unfolding following follows
    derived_follows a = rw (kept_none (follows t a) derived (λ b m. rw (no_delta b m)))

    derived_anchored : (l : List Slice) → standing_from t derived (only based nowhere l) ≡ lone t (map started l)
    unfolding reached
    derived_anchored [] = refl
    derived_anchored (b ∷ []) = rw (derived_follows (based b))
    derived_anchored (b ∷ c ∷ l) = refl

    derived_at : permanent_at t derived ≡ lone t (map (λ s. as_written unknown s.state) (kept (current t) (stretches slices)))
    unfolding permanent_at anchor stands derived_baselines
    derived_at =
        ap (λ os. standing_from t derived (only based (only opened nowhere os) (kept (stands derived t) derived))) derived_opens
        ∙ derived_anchored (kept (stands derived t) derived)
        ∙ ap (λ l. lone t (map started l))
        (kept_same (stands derived t) (holding t) derived (λ b m. rw (until_derived unknown slices b m)))
        ∙ ap (lone t) (numbered_kept t 1 (stretches slices))

-- ---- a state that is known is not withdrawn
unless_known : (t : Instant) (s' s : State) → unless_withdrawn t s' ≡ known s → withdrawn t s ≡ false
unfolding unless_withdrawn
unless_known t s' s =
    pick_ind (λ v. v ≡ known s → withdrawn t s ≡ false) (withdrawn t s') (λ _ e. absurd (known_apart 22 s e))
    (λ n e. ap (withdrawn t) (known_same false s s' e) ∙ n)

pub known_stays : (t : Instant) (slices : List Slice) (s : State) → permanent_at t slices ≡ known s → withdrawn t s ≡ false
unfolding permanent_at reached
known_stays t slices s = go (anchor t slices)
  where
    go : (a : Anchor) → standing_from t slices a ≡ known s → withdrawn t s ≡ false
    go (based b) e = unless_known t (applied_all (started b) (following t slices (based b))) s e
    go (opened o) e = unless_known t (applied_all (started o) (following t slices (opened o))) s e
    go nowhere e = absurd (known_apart 20 s e)
    go two e = absurd (known_apart 21 s e)

-- ---- READ BACK: derived BASELINEs, read alone, answer at each instant what their slices answer, as it is written
pub read_back_lem : (unknown : List ℕ) (slices : List Slice) → Timely slices → (t : Instant) → t.0 < no_instant
    → permanent_at t (derived_baselines unknown slices) ≡ read_back unknown (permanent_at t slices)
unfolding stretches unless_withdrawn withdrawn as_written
read_back_lem unknown slices ok t lt =
    derived_at unknown slices t ∙ go (settle slices t lt (change_instants slices) (changes_rising slices))
  where
    said : List Stretch → Standing
    said l = lone t (map (λ s. as_written unknown s.state) l)

    written : (s : State) → withdrawn t s ≡ false → unless_withdrawn t (as_written unknown s) ≡ known (as_written unknown s)
    written s n = rw n

    one : (u e : Instant) (v : Standing) → permanent_at t slices ≡ v → said (stretch u e v) ≡ read_back unknown v
    one u e (refuses n) q = refl
    one u e (known s) q = written s (known_stays t slices s q)

    go : Settled slices t (change_instants slices)
        → said (kept (current t) (stretches slices)) ≡ read_back unknown (permanent_at t slices)
    go (inl early) = ap said (none_early slices t (change_instants slices) early)
        ∙ sym (ap (read_back unknown) (permanent_none slices t lt early))
    go (inr h) =
        let same = permanent_same slices ok t h.from lt (omega (tests, h.by)) h.alike in
        ap said h.alone ∙ one h.from h.next (permanent_at h.from slices) same ∙ sym (ap (read_back unknown) same)

-- where no change instant has two anchors, no instant has
pub no_two : (slices : List Slice) → Timely slices → two_anchors slices ≡ false → (t : Instant) → t.0 < no_instant
    → has_two (permanent_at t slices) ≡ false
unfolding two_anchors
no_two slices ok none-two t lt = go (settle slices t lt (change_instants slices) (changes_rising slices))
  where
    go : Settled slices t (change_instants slices) → has_two (permanent_at t slices) ≡ false
    go (inl early) = ap has_two (permanent_none slices t lt early)
    go (inr h) =
        ap has_two (permanent_same slices ok t h.from lt (omega (tests, h.by)) h.alike)
        ∙ any_none (λ t. has_two (permanent_at t slices)) (change_instants slices) none-two h.from h.one
