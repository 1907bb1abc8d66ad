-- What the laws need of the rule how long a BASELINE holds and how far it reaches; no other file of proofs opens it.
-- Assumes nothing.
use Prim.Native.Nat.{ℕ, ◌≤◌}
use mathlib.Core.Path.{◌≡◌, refl, sym, ap, ◌∙◌}
use mathlib.Core.List.{List, [], ◌∷◌, map}
use mathlib.Core.Bool.{Bool, true, false, cond, ◌&&◌, and-false}
use mathlib.Core.Logic.{◌⊎◌, inl, inr, ⊎_elim}
use Rattle.laws.specs.Lists.{kept}
use Rattle.laws.specs.Keyed.{In}
use Rattle.laws.proofs.Tests.{tests, pick_ind, by-test, and_both, or_neither, iff}
use Rattle.laws.proofs.Lists.{kept_in, map_in, in_map}
use Rattle.numbers.specs.Numbers.{none, is_none, before, at_most, same_instant}
use Rattle.numbers.specs.declared.Instant.{Instant}
use Rattle.numbers.proofs.Facts.{none_true}
use Rattle.numbers.proofs.Orders.{instant_of_lem}
use Rattle.slice.specs.Record.{baseline, Slice}
use Rattle.history.specs.Counted.{counts, holds}
use Rattle.history.specs.Period.{begin_of, least, begins_after, until, baseline_reach}
use Rattle.history.specs.Reach.{reaches}
use Rattle.history.specs.Parts.{begun}
use Rattle.history.specs.Changes.{change_instants}
use Rattle.history.specs.Derived.{stretches, baseline_of, derived_baselines}
use Rattle.history.proofs.Selection.{kept_none}
use Rattle.history.proofs.Changes.{Changing, begin_changing, end_changing, changes_rising, changes_given}
use Rattle.history.proofs.Stretches.{stretched, stretch_next, numbered_in}

-- ---- the least of some instants
-- it is past t where each of them is
least_past : (t x : Instant) (l : List Instant) → before t (least (x ∷ l)) ≡ (before t x && before t (least l))
unfolding before
least_past t x l =
    let y = least l in
    pick_ind (λ (z : Instant). before t z ≡ (before t x && before t y)) (before x y)
    (λ k. by-test (before t x) (λ p. let q : before t y ≡ true = omega tests in rw (p, q)) (λ n. rw n))
    (λ k. by-test (before t y) (λ p. let q : before t x ≡ true = omega tests in rw (q, p)) (λ n. rw n (sym (and-false (before t x)))))

least_in : (l : List Instant) → (least l ≡ none) ⊎ In (least l) l
least_in [] = inl refl
least_in (x ∷ l) =
    pick_ind (λ y. (y ≡ none) ⊎ In y (x ∷ l)) (before x (least l)) (λ _. inr (inl refl)) (λ _. ⊎_elim inl (λ m. inr (inr m)) (least_in l))

-- of some instants each is past t, and t is an instant at all
least_each : (t : Instant) (l : List Instant) → before t (least l) ≡ true
    → (before t none ≡ true) × ((x : Instant) → In x l → before t x ≡ true)
least_each t [] h = (h, λ x m. absurd m)
least_each t (y ∷ l) h =
    let (p, q) = and_both (before t y) (before t (least l)) (sym (least_past t y l) ∙ h) in
    let (n, each) = least_each t l q in
    (n, λ x. ⊎_elim (λ e. ap (before t) e ∙ p) (each x))

each_least : (t : Instant) (l : List Instant) → before t none ≡ true → ((x : Instant) → In x l → before t x ≡ true)
    → before t (least l) ≡ true
each_least t [] n each = n
each_least t (y ∷ l) n each =
    least_past t y l ∙ rw (each y (inl refl), each_least t l n (λ x m. each x (inr m)))

-- ---- the begins after an instant
abbrev begins : Instant → List Slice → List Instant
begins u slices = map begin_of (kept (begins_after u) slices)

-- one more slice among those after an instant
one_more_lem : (t u : Instant) (s : Slice) (slices : List Slice)
    → before t (least (begins u (s ∷ slices)))
    ≡ cond (begins_after u s) (before t (begin_of s) && before t (least (begins u slices))) (before t (least (begins u slices)))
one_more_lem t u s slices =
    by-test (begins_after u s) (λ y. rw y (least_past t (begin_of s) (begins u slices))) (λ n. rw n)

-- one out of reach that begins after an instant begins after t
far : (t u : Instant) (s : Slice) → reaches t s ≡ false → begins_after u s ≡ true → before t (begin_of s) ≡ true
unfolding reaches baseline_reach begins_after before at_most
far t u s n y =
    let (c, l) = and_both (counts baseline s) (before u (begin_of s)) y in
    let late : at_most (begin_of s) t ≡ false = rw c at (or_neither (counts baseline s && at_most (begin_of s) t) _ n).0 in
    omega tests

-- what has not begun by t closes nothing by t
begins_reach : (t u : Instant) (slices : List Slice)
    → before t (least (begins u (kept (reaches t) slices))) ≡ before t (least (begins u slices))
begins_reach t u [] = refl
begins_reach t u (s ∷ slices) =
    let rest = begins_reach t u slices in
    pick_ind (λ l. before t (least (begins u l)) ≡ before t (least (begins u (s ∷ slices)))) (reaches t s)
    (λ _. one_more_lem t u s (kept (reaches t) slices)
    ∙ ap (λ (b : Bool). cond (begins_after u s) (before t (begin_of s) && b) b) rest
    ∙ sym (one_more_lem t u s slices))
    (λ n. rest
    ∙ sym (one_more_lem t u s slices
    ∙ pick_ind (λ b. b ≡ before t (least (begins u slices))) (begins_after u s) (λ y. rw (far t u s n y)) (λ _. refl)))

-- ---- how long a BASELINE holds
module _ (t : Instant) (slices : List Slice) (b : Slice) where
  -- whether a BASELINE has ended by t is seen from the slices in reach
  pub until_reach : before t (until (kept (reaches t) slices) b) ≡ before t (until slices b)
  unfolding until
  until_reach =
      by-test (is_none b.period.end) (λ y. rw y (begins_reach t (begin_of b) slices)) (λ n. rw n)

  -- where a BASELINE holds it reaches
  pub holds_reach : holds t b.period.begin (until slices b) ≡ true → baseline_reach t b ≡ true
  unfolding holds baseline_reach
  holds_reach h = (and_both (at_most b.period.begin t) (before t (until slices b)) h).0

-- the last begin by t of a counted BASELINE, or 0
pub record LastBegun (t : Instant) (slices : List Slice) (last : Instant) : Type 0 where
  pub one : (last.0 ≡ 0) ⊎ ((s : Slice) × In s slices × (begun t s ≡ true) × ((begin_of s).0 ≡ last.0))
  pub most : (s : Slice) → In s slices → begun t s ≡ true → (begin_of s).0 ≤ last.0

module _ (t : Instant) (slices : List Slice) (b : Slice) where
  -- a fixed end stays
  pub until_fixed : is_none b.period.end ≡ false → until slices b ≡ b.period.end
  unfolding until
  until_fixed n = rw n

  -- one that has begun and has no end holds where none began after it
  module _ (last : Instant) (l : LastBegun t slices last) (m : In b slices) (y : begun t b ≡ true)
      (open' : is_none b.period.end ≡ true) where
    abbrev after : List Instant
    after = begins (begin_of b) slices

    open_last : before t (least after) ≡ true → (begin_of b).0 ≡ last.0
    unfolding begun begins_after before at_most
    open_last h =
        by-test (before (begin_of b) last)
        (λ k. ⊎_elim (λ e. absurd (omega tests))
        (λ (s, i, z, e). let (c, p) = and_both (counts baseline s) (at_most (begin_of s) t) z in
        let q : before (begin_of b) (begin_of s) ≡ true = omega tests in
        let j = in_map begin_of (kept (begins_after (begin_of b)) slices) s
        ((kept_in (begins_after (begin_of b)) slices s).1 (i, rw (c, q))) in
        absurd (omega (tests, (least_each t after h).1 (begin_of s) j)))
        l.one)
        (λ k. omega (tests, l.most b m y))

    last_open : before t none ≡ true → (begin_of b).0 ≡ last.0 → before t (least after) ≡ true
    unfolding begun begins_after before at_most
    last_open n e =
        each_least t after n
        (λ x i. let (s, j, f) = map_in begin_of (kept (begins_after (begin_of b)) slices) x i in
        let (k, z) = (kept_in (begins_after (begin_of b)) slices s).0 j in
        let (c, p) = and_both (counts baseline s) (before (begin_of b) (begin_of s)) z in
        by-test (before t x) (λ q. q)
        (λ q. let r : at_most (begin_of s) t ≡ true = omega (tests, ap (λ i. i.0) f) in
        absurd (omega (tests, l.most s k (rw (c, r))))))

    pub until_open : before t (until slices b) ≡ (before t b.period.end && same_instant (begin_of b) last)
    unfolding until same_instant
    until_open =
        let e = instant_of_lem b.period.end none (none_true b.period.end open') in
        rw (open', e)
        (iff (before t (least after)) (before t none && same_instant (begin_of b) last)
        (λ h. let q : same_instant (begin_of b) last ≡ true = omega (tests, open_last h) in rw ((least_each t after h).0, q))
        (λ h. let (n, q) = and_both (before t none) (same_instant (begin_of b) last) h in last_open n (omega tests)))

-- a counted BASELINE ends at a change instant or never: where it closes, another begins
pub until_changing : (slices : List Slice) (b : Slice) → In b slices → counts baseline b ≡ true → Changing slices (until slices b)
unfolding until begins_after
until_changing slices b m c =
    pick_ind (Changing slices) (is_none b.period.end)
    (λ _. ⊎_elim inl (λ i. let (s, j, e) = map_in begin_of (kept (begins_after (begin_of b)) slices) (least (begins (begin_of b) slices)) i in
    let (k, y) = (kept_in (begins_after (begin_of b)) slices s).0 j in
    rw e (begin_changing slices s k (and_both (counts baseline s) (before (begin_of b) (begin_of s)) y).0))
    (least_in (begins (begin_of b) slices)))
    (λ _. end_changing slices b m c)

-- a derived BASELINE ends where it says: one without an end begins at the last change instant, and none begins later
pub until_derived : (unknown : List ℕ) (slices : List Slice) (b : Slice) → In b (derived_baselines unknown slices)
    → until (derived_baselines unknown slices) b ≡ b.period.end
unfolding until begins_after before derived_baselines baseline_of stretches
until_derived unknown slices b m =
    pick_ind (λ e. e ≡ b.period.end) (is_none b.period.end)
    (λ y. ap (λ l. least (map begin_of l)) (kept_none (begins_after (begin_of b)) derived (λ s i. closes s i y))
    ∙ sym (instant_of_lem b.period.end none (none_true b.period.end y)))
    (λ _. refl)
  where
    derived : List Slice
    derived = derived_baselines unknown slices

    closes : (s : Slice) → In s derived → is_none b.period.end ≡ true → begins_after (begin_of b) s ≡ false
    closes s i y =
        let (j, x, n, e) = numbered_in unknown 1 (stretches slices) b m in
        let (k, z, o, f) = numbered_in unknown 1 (stretches slices) s i in
        let last = (stretch_next slices (change_instants slices) (changes_rising slices) (changes_given slices) x n).last (rw e at y)
        z.period.begin (stretched slices (change_instants slices) z o).begins in
        let l : before x.period.begin z.period.begin ≡ false = omega tests in
        ap (λ (y : Bool). counts baseline s && y) (rw (e, f) l) ∙ and-false (counts baseline s)
