-- Deriving from derived BASELINEs: it is not refused, and gives the same again. Assumes nothing.
use Prim.Native.Nat.{ℕ, suc, ◌<◌}
use mathlib.Core.Path.{◌≡◌, refl, sym, ap, ap₂, ◌∙◌, subst}
use mathlib.Core.List.{List, [], ◌∷◌, ◌++◌, map}
use mathlib.Core.Bool.{Bool, true, false}
use mathlib.Core.Logic.{◌⊎◌, inl, inr, ⊎_elim}
use lib.Dec.{ltb}
use Rattle.laws.specs.Lists.{any, kept}
use Rattle.laws.specs.Keyed.{In}
use Rattle.laws.proofs.Tests.{tests, pick_ind, by-test, contrary}
use Rattle.laws.proofs.Lists.{any_some, any_none, none_any, kept_in}
use Rattle.laws.proofs.Places.{number_order}
use Rattle.laws.proofs.Fresh.{fresh_unique}
use Rattle.numbers.specs.Numbers.{no_instant, none, before, same_instant}
use Rattle.numbers.specs.declared.Instant.{Instant}
use Rattle.numbers.proofs.Orders.{instant_order}
use Rattle.slice.specs.Record.{baseline, Property, unmentioned, says, Slice}
use Rattle.history.specs.Counted.{counts}
use Rattle.history.specs.Permanent.{Standing, refuses, known, permanent_at}
use Rattle.history.specs.Changes.{changes_by, change_instants, next_of}
use Rattle.history.specs.Derived.{has_two, two_anchors, Stretch, stretch, stretches_from, stretches, filled_in, baseline_of}
use Rattle.history.specs.Derived.{numbered_from, derived_baselines, as_written, read_back}
use Rattle.history.proofs.Selection.{kept_rising, append_in}
use Rattle.history.proofs.Changes.{Risen, Changing, Bounded, changes_rising, changes_from, changes_given, changes_below}
use Rattle.history.proofs.Changes.{changing_given, begin_changing, end_changing}
use Rattle.history.proofs.Steady.{Timely, known_life}
use Rattle.history.proofs.Stretches.{Stretched, stretched, numbered_in}
use Rattle.history.proofs.ReadBack.{read_back_lem}

-- ---- instants that are among others
module _ (k : List Instant) where
  -- x is one of k
  abbrev among : Instant → Bool
  among x = any (same_instant x) k

  in_among : (x : Instant) → In x k → among x ≡ true
  in_among x m = by-test (among x) (λ y. y) (λ n. contrary (instant_order.tells x x refl) (any_none (same_instant x) k n x m))

  among_in : (x : Instant) → among x ≡ true → In x k
  among_in x h = let (y, m, e) = any_some (same_instant x) k h in subst (λ z. In z k) (sym (instant_order.told x y e)) m

  -- rising instants that are all among others are what is kept of these
  kept_among : (l : List Instant) → Risen l → Risen k → ((x : Instant) → In x k → In x l) → kept among l ≡ k
  kept_among l up up' within =
      fresh_unique (λ t. t) before same_instant instant_order (λ _. 0) ltb number_order (λ x. In x k) (λ a b m n e _. e)
      (kept among l) k
      (record {
        rising = kept_rising (λ t. t) before same_instant among l up;
        within = λ x m. among_in x ((kept_in among l x).0 m).1;
        covers = λ x m. (x, (kept_in among l x).1 (within x m, in_among x m), refl, refl);
      })
      (record { rising = up'; within = λ x m. m; covers = λ x m. (x, m, refl, refl) })

-- where the first of some instants is kept it is the first that is
next_same : (f : Instant → Bool) (ts : List Instant) → ((x : Instant) → In x ts → x.0 < no_instant)
    → (next_of ts ≡ none) ⊎ (f (next_of ts) ≡ true)
    → next_of (kept f ts) ≡ next_of ts
next_same f [] below h = refl
next_same f (t ∷ ts) below (inl e) = absurd (omega (tests, below t (inl refl), ap (λ i. i.0) e))
next_same f (t ∷ ts) below (inr y) = rw y

module _ (unknown : List ℕ) where
  -- ---- what is written twice is as it was written once
  filled_twice : (ps : List Property) → map (filled_in unknown) (map (filled_in unknown) ps) ≡ map (filled_in unknown) ps
  filled_twice [] = refl
  filled_twice (unmentioned ∷ ps) = ap (λ l. says unknown ∷ l) (filled_twice ps)
  filled_twice (says p ∷ ps) = ap (λ l. says p ∷ l) (filled_twice ps)

  abbrev written : Stretch → Stretch
  written s = record { period = s.period; state = as_written unknown s.state }

  baseline_written : (n : ℕ) (s : Stretch) → baseline_of unknown n (written s) ≡ baseline_of unknown n s
  unfolding baseline_of as_written
  baseline_written n s i = record {
    kind = baseline;
    cancelled = false;
    correction = record { 0 = 0 };
    sequence = record { 0 = n };
    period = s.period;
    life = s.state.life;
    properties = filled_twice s.state.properties i;
  }

  numbered_written : (n : ℕ) (l : List Stretch) → numbered_from unknown n (map written l) ≡ numbered_from unknown n l
  numbered_written n [] = refl
  numbered_written n (s ∷ l) = ap₂ ◌∷◌ (baseline_written n s) (numbered_written (suc n) l)

  in_numbered : (n : ℕ) (l : List Stretch) (s : Stretch) → In s l → (k : ℕ) × In (baseline_of unknown k s) (numbered_from unknown n l)
  in_numbered n [] s x' = elim x' [ ]
  in_numbered n (x ∷ l) s (inl e) = (n, inl (ap (baseline_of unknown n) e))
  in_numbered n (x ∷ l) s (inr m) = let (k, i) = in_numbered (suc n) l s m in (k, inr i)

  module _ (slices : List Slice) (ok : Timely slices) (low : Bounded slices) where
    abbrev derived : List Slice
    derived = derived_baselines unknown slices

    -- the change instants of the derived BASELINEs are change instants of the slices
    derived_changes : (x : Instant) → In x (change_instants derived) → In x (change_instants slices)
    unfolding derived_baselines stretches changes_by counts baseline_of
    derived_changes x m =
        let ((b, i, j), g) = changes_from derived x m in
        let (k, s, n, e) = numbered_in unknown 1 (stretches slices) b i in
        let h = stretched slices (change_instants slices) s n in
        let c : In x (s.period.begin ∷ s.period.end ∷ s.state.life.end ∷ []) = rw e at j in
        changing_given slices x (one s h c) g
      where
        one : (s : Stretch) → Stretched slices (change_instants slices) s
            → In x (s.period.begin ∷ s.period.end ∷ s.state.life.end ∷ []) → Changing slices x
        one s h (inl e) = inr (rw e h.begins)
        one s h (inr (inl e)) = rw e h.ends
        one s h (inr (inr (inr x4))) = elim x4 [ ]
        one s h (inr (inr (inl e))) = rw e (known_life slices ok s.period.begin s.state h.has)

    -- and each stretch begins at one of them, and ends at one or never
    stretch_changes : (s : Stretch) → In s (stretches slices)
        → Changing derived s.period.begin × Changing derived s.period.end
    unfolding derived_baselines counts baseline_of
    stretch_changes s m =
        let (k, i) = in_numbered 1 (stretches slices) s m in
        (begin_changing derived (baseline_of unknown k s) i refl, end_changing derived (baseline_of unknown k s) i refl)

    -- NOT REFUSED
    pub derived_two : two_anchors derived ≡ false
    unfolding two_anchors
    derived_two =
        none_any (λ t. has_two (permanent_at t derived)) (change_instants derived)
        (λ t m. ap has_two (read_back_lem unknown slices ok t (changes_below slices low t (derived_changes t m)))
        ∙ one (permanent_at t slices))
      where
        one : (v : Standing) → has_two (read_back unknown v) ≡ false
        one (refuses n) = refl
        one (known s) = refl

    -- ---- the stretches
    -- each begins at an instant that is kept, and ends at one or never
    abbrev Held : (Instant → Bool) → List Stretch → Type 0
    Held f l = (s : Stretch) → In s l → (f s.period.begin ≡ true) × ((s.period.end ≡ none) ⊎ (f s.period.end ≡ true))

    -- then the stretches of what is kept are the same, as they are written
    again_from : (f : Instant → Bool) (us : List Instant) → ((x : Instant) → In x us → x.0 < no_instant)
        → Held f (stretches_from slices us)
        → stretches_from derived (kept f us) ≡ map written (stretches_from slices us)
    again_from f [] below held = refl
    again_from f (t ∷ ts) below held =
        go (permanent_at t slices) refl (λ s m. held s ((append_in first (stretches_from slices ts) s).1 (inl m)))
        (again_from f ts (λ x m. below x (inr m)) (λ s m. held s ((append_in first (stretches_from slices ts) s).1 (inr m))))
      where
        first : List Stretch
        first = stretch t (next_of ts) (permanent_at t slices)

        go : (v : Standing) → permanent_at t slices ≡ v → Held f (stretch t (next_of ts) v)
            → stretches_from derived (kept f ts) ≡ map written (stretches_from slices ts)
            → stretches_from derived (kept f (t ∷ ts)) ≡ map written (stretch t (next_of ts) v ++ stretches_from slices ts)
        go (refuses n) e held q =
            pick_ind (λ l. stretches_from derived l ≡ map written (stretches_from slices ts)) (f t)
            (λ _. rw (read_back_lem unknown slices ok t (below t (inl refl)), e) q) (λ _. q)
        go (known s) e held q =
            let (y, z) = held (record { period = record { begin = t; end = next_of ts }; state = s }) (inl refl) in
            rw (y, read_back_lem unknown slices ok t (below t (inl refl)), e, next_same f ts (λ x m. below x (inr m)) z)
            (ap (λ l. record { period = record { begin = t; end = next_of ts }; state = as_written unknown s } ∷ l) q)

    -- THE SAME AGAIN
    pub derived_again : derived_baselines unknown derived ≡ derived
    unfolding derived_baselines stretches
    derived_again =
        ap (λ ts. numbered_from unknown 1 (stretches_from derived ts))
        (sym (kept_among left all (changes_rising slices) (changes_rising derived) derived_changes))
        ∙ ap (numbered_from unknown 1) (again_from (among left) all (changes_below slices low) held)
        ∙ numbered_written 1 (stretches slices)
      where
        all : List Instant
        all = change_instants slices

        left : List Instant
        left = change_instants derived

        held : Held (among left) (stretches_from slices all)
        held s m =
            let (b, e) = stretch_changes s m in
            let begin = s.period.begin in
            let g = changes_given slices begin (stretched slices all s m).begins in
            (in_among left begin (changing_given derived begin b g), ⊎_elim inl (λ i. inr (in_among left s.period.end i)) e)
