-- The BASELINEs that have begun by an instant, one more at a time; and that those which one pass finds to hold are those that stand.
-- Assumes nothing.
use Prim.Native.Nat.{ℕ, suc, ◌≤◌}
use mathlib.Core.Path.{◌≡◌, refl, sym, ap, ap₂, ◌∙◌}
use mathlib.Core.Bool.{Bool, true, false, cond, not, ◌&&◌, ◌||◌}
use mathlib.Core.List.{List, [], ◌∷◌}
use mathlib.Core.Logic.{◌⊎◌, inl, inr, ⊎_elim}
use Rattle.laws.specs.Keyed.{In}
use Rattle.laws.proofs.Tests.{tests, pick_ind, by-test, contrary, and_both}
use Rattle.numbers.specs.Numbers.{is_none, given, before, at_most, same_instant}
use Rattle.numbers.specs.declared.Instant.{Instant}
use Rattle.slice.specs.Record.{baseline, Slice}
use Rattle.history.specs.Counted.{counts, holds}
use Rattle.history.specs.Period.{begin_of, until}
use Rattle.history.specs.Anchor.{stands}
use Rattle.history.specs.Parts.{begun, pass_from}
use Rattle.history.proofs.Periods.{LastBegun, until_fixed, until_open}
use Rattle.state.specs.Steps.{one_more, tally_with, tally_from, no_base, closed_by, held_with, base_with, bases_from, join_few}
use Rattle.state.specs.declared.anchor.Few.{Few}
use Rattle.state.specs.declared.anchor.Few.TheVariants.{Zero, One, More}
use Rattle.state.specs.declared.front.Bases.{Bases}

-- ---- one more
module _ (t : Instant) (i : ℕ) (s : Slice) where
  pub base_turn : begun t s ≡ true → (b : Bases) → held_with t i s.period (closed_by (begin_of s) b) ≡ base_with t b i s
  base_turn y b = rw y

  pub base_past : begun t s ≡ false → (b : Bases) → base_with t b i s ≡ b
  base_past n b = rw n

-- ---- a pass, by what it keeps
-- a part of what a pass keeps is kept by a pass of its own
module _ {S T : Type 0} (part : S → T) (step : S → ℕ → Slice → S) (step' : T → ℕ → Slice → T)
    (same : (s : S) (i : ℕ) (d : Slice) → part (step s i d) ≡ step' (part s) i d) where
  pass_part : (s : S) (i : ℕ) (l : List Slice) → part (pass_from step s i l) ≡ pass_from step' (part s) i l
  pass_part s i [] = refl
  pass_part s i (d ∷ l) = pass_part (step s i d) (suc i) l ∙ ap (λ x. pass_from step' x (suc i) l) (same s i d)

-- tallies by tests that tell the same of each slice
tally_same : (f g : Slice → Bool) (i : ℕ) (a : Few) (l : List Slice) → ((s : Slice) → In s l → f s ≡ g s)
    → tally_from f i a l ≡ tally_from g i a l
tally_same f g i a [] h = refl
tally_same f g i a (s ∷ l) h =
    ap (λ (b : Bool). tally_from f (suc i) (cond b (one_more i a) a) l) (h s (inl refl))
    ∙ tally_same f g (suc i) (cond (g s) (one_more i a) a) l (λ x m. h x (inr m))

-- ---- two tallies as one
module _ (i : ℕ) where
  join_left : (a b : Few) → one_more i (join_few a b) ≡ join_few (one_more i a) b
  join_left Zero Zero = refl
  join_left Zero (One j) = refl
  join_left Zero More = refl
  join_left (One k) Zero = refl
  join_left (One k) (One j) = refl
  join_left (One k) More = refl
  join_left More b = refl

  join_right : (a b : Few) → one_more i (join_few a b) ≡ join_few a (one_more i b)
  join_right Zero b = refl
  join_right (One k) Zero = refl
  join_right (One k) (One j) = refl
  join_right (One k) More = refl
  join_right More b = refl

module _ (f g : Slice → Bool) (apart : (s : Slice) → f s ≡ true → g s ≡ false) where
  join_with : (a b : Few) (i : ℕ) (s : Slice)
      → tally_with (λ x. f x || g x) (join_few a b) i s ≡ join_few (tally_with f a i s) (tally_with g b i s)
  join_with a b i s =
      by-test (f s) (λ y. rw (y, apart s y) (join_left i a b))
      (λ n. rw n (by-test (g s) (λ z. rw z (join_right i a b)) (λ z. rw z)))

  tally_join : (i : ℕ) (a b : Few) (l : List Slice)
      → tally_from (λ x. f x || g x) i (join_few a b) l ≡ join_few (tally_from f i a l) (tally_from g i b l)
  tally_join i a b [] = refl
  tally_join i a b (s ∷ l) =
      ap (λ x. tally_from (λ x. f x || g x) (suc i) x l) (join_with a b i s)
      ∙ tally_join (suc i) (tally_with f a i s) (tally_with g b i s) l

-- ---- the last begin moves on
not_later : (x : Instant) → before x x ≡ false
unfolding before
not_later x = omega tests

module _ (last begin later : Instant) where
  abbrev moved : Instant
  moved = cond (before last begin) begin last

  -- a later begin closes what began at the last one; from there on what begins there counts
  endless_moved : (y n : Bool) (i : ℕ) (e : Few) → moved.0 ≤ later.0
      → cond (before moved later) Zero
      (cond (y && (n && same_instant begin moved)) (one_more i (cond (before last begin) Zero e)) (cond (before last begin) Zero e))
      ≡ cond (y && (n && same_instant begin later)) (one_more i (cond (before last later) Zero e)) (cond (before last later) Zero e)
  unfolding before same_instant
  endless_moved y n i e h =
      by-test (before last begin)
      (λ p. let g : begin.0 ≤ later.0 = rw p at h in
      let q : before last later ≡ true = omega tests in
      by-test (before begin later)
      (λ r. let z : same_instant begin later ≡ false = omega tests in rw (p, q, r, z) (sym (none_left y n)))
      (λ r. let z : same_instant begin begin ≡ true = omega tests in
      let w : same_instant begin later ≡ true = omega tests in rw (p, q, r, z, w)))
      (λ p. let g : last.0 ≤ later.0 = rw p at h in
      by-test (before last later)
      (λ r. let z : same_instant begin later ≡ false = omega tests in rw (p, r, z) (sym (none_left y n)))
      (λ r. let z : last.0 ≡ later.0 = omega tests in rw (p, r, z)))
    where
      none_left : (y n : Bool) → cond (y && (n && false)) (one_more i Zero) Zero ≡ Zero
      none_left true true = refl
      none_left true false = refl
      none_left false n = refl

-- ---- what the pass over the BASELINEs keeps
module _ (t : Instant) where
  -- one that has begun and holds by an end of its own; without an end from an instant on
  abbrev fixed_at : Slice → Bool
  fixed_at s = begun t s && (before t s.period.end && given s.period.end)

  abbrev endless_at : Instant → Slice → Bool
  endless_at last s = begun t s && (before t s.period.end && (is_none s.period.end && same_instant (begin_of s) last))

  abbrev last_with : Instant → ℕ → Slice → Instant
  last_with last i s = cond (begun t s && before last (begin_of s)) (begin_of s) last

  abbrev last_from : Instant → ℕ → List Slice → Instant
  last_from last i l = pass_from last_with last i l

  fixed_with : (b : Bases) (i : ℕ) (s : Slice) → (base_with t b i s).fixed ≡ tally_with fixed_at b.fixed i s
  unfolding held_with closed_by
  fixed_with b i s = by-test (begun t s) (λ y. rw y) (λ n. rw n)

  last_with_lem : (b : Bases) (i : ℕ) (s : Slice) → (base_with t b i s).last ≡ last_with b.last i s
  unfolding held_with closed_by
  last_with_lem b i s = by-test (begun t s) (λ y. rw y) (λ n. rw n)

  fixed_from : (i : ℕ) (b : Bases) (l : List Slice) → (bases_from t i b l).fixed ≡ tally_from fixed_at i b.fixed l
  fixed_from i b l = pass_part (λ (b : Bases). b.fixed) (base_with t) (tally_with fixed_at) fixed_with b i l

  last_from_lem : (i : ℕ) (b : Bases) (l : List Slice) → (bases_from t i b l).last ≡ last_from b.last i l
  last_from_lem i b l = pass_part (λ (b : Bases). b.last) (base_with t) last_with last_with_lem b i l

  -- the last begin does not fall
  last_grows : (last : Instant) (i : ℕ) (l : List Slice) → last.0 ≤ (last_from last i l).0
  unfolding before
  last_grows last i [] = omega tests
  last_grows last i (s ∷ l) =
      let more : last.0 ≤ (last_with last i s).0 =
      pick_ind (λ (x : Instant). last.0 ≤ x.0) (begun t s && before last (begin_of s))
      (λ y. let z = (and_both (begun t s) (before last (begin_of s)) y).1 in omega tests) (λ _. omega tests) in
      omega (tests, last_grows (last_with last i s) (suc i) l)

  -- those without an end that are left where the last begin moves on to a later one, with one more
  endless_with : (b : Bases) (i : ℕ) (s : Slice) (later : Instant) → (last_with b.last i s).0 ≤ later.0
      → cond (before (last_with b.last i s) later) Zero (base_with t b i s).endless
      ≡ tally_with (endless_at later) (cond (before b.last later) Zero b.endless) i s
  unfolding held_with closed_by
  endless_with b i s later h =
      by-test (begun t s)
      (λ y. let g : (cond (before b.last (begin_of s)) (begin_of s) b.last).0 ≤ later.0 = rw y at h in
      rw y (endless_moved b.last (begin_of s) later (before t s.period.end) (is_none s.period.end) i b.endless g))
      (λ n. rw n)

  endless_from : (i : ℕ) (b : Bases) (l : List Slice)
      → (bases_from t i b l).endless
      ≡ tally_from (endless_at (last_from b.last i l)) i (cond (before b.last (last_from b.last i l)) Zero b.endless) l
  endless_from i b [] = rw (not_later b.last)
  endless_from i b (s ∷ l) =
      let later = last_from b.last i (s ∷ l) in
      endless_from (suc i) (base_with t b i s) l
      ∙ ap (λ (x : Instant). tally_from (endless_at (last_from x (suc i) l)) (suc i)
      (cond (before x (last_from x (suc i) l)) Zero (base_with t b i s).endless) l) (last_with_lem b i s)
      ∙ ap (λ (a : Few). tally_from (endless_at later) (suc i) a l)
      (endless_with b i s later (last_grows (last_with b.last i s) (suc i) l))

  -- the last begin is that of one that has begun, or the one so far
  last_one : (last : Instant) (i : ℕ) (l : List Slice)
      → ((last_from last i l).0 ≡ last.0) ⊎ ((s : Slice) × In s l × (begun t s ≡ true) × ((begin_of s).0 ≡ (last_from last i l).0))
  last_one last i [] = inl refl
  last_one last i (s ∷ l) =
      ⊎_elim
      (λ e. by-test (begun t s && before last (begin_of s))
      (λ y. inr (s, inl refl, (and_both (begun t s) (before last (begin_of s)) y).0, sym (e ∙ rw y)))
      (λ n. inl (e ∙ rw n)))
      (λ (x, m, y, e). inr (x, inr m, y, e)) (last_one (last_with last i s) (suc i) l)

  -- and none that has begun begins later
  last_most : (last : Instant) (i : ℕ) (l : List Slice) (s : Slice) → In s l → begun t s ≡ true → (begin_of s).0 ≤ (last_from last i l).0
  unfolding before
  last_most last i [] s x'' y = elim x'' [ ]
  last_most last i (x ∷ l) s (inr m) y = last_most (last_with last i x) (suc i) l s m y
  last_most last i (x ∷ l) s (inl e) y =
      let here : (begin_of x).0 ≤ (last_with last i x).0 =
      pick_ind (λ (z : Instant). (begin_of x).0 ≤ z.0) (begun t x && before last (begin_of x)) (λ _. omega tests)
      (λ n. let z : before last (begin_of x) ≡ false = rw (sym (ap (begun t) e) ∙ y) at n in omega tests) in
      omega (tests, last_grows (last_with last i x) (suc i) l, ap (λ (z : Slice). (begin_of z).0) e)

  -- ---- ONE PASS: those that hold by an end of their own and those without an end are those that stand
  module _ (slices : List Slice) where
    abbrev last : Instant
    last = last_from (record { 0 = 0 }) 0 slices

    last_begun : LastBegun t slices last
    last_begun = record { one = last_one (record { 0 = 0 }) 0 slices; most = last_most (record { 0 = 0 }) 0 slices }

    stands_either : (s : Slice) → In s slices → (fixed_at s || endless_at last s) ≡ stands slices t s
    unfolding stands holds begun
    stands_either s m =
        by-test (begun t s)
        (λ y. let (c, l) = and_both (counts baseline s) (at_most (begin_of s) t) y in
        by-test (is_none s.period.end)
        (λ z. rw (c, l, until_open t slices s last last_begun m y z, z) (either (before t s.period.end) _))
        (λ z. rw (c, l, until_fixed t slices s z, z) (alone (before t s.period.end))))
        (λ n. rw n (sym (neither (counts baseline s) (at_most (begin_of s) t) (before t (until slices s)) n)))
      where
        either : (b d : Bool) → ((b && false) || (b && d)) ≡ (b && d)
        either true d = refl
        either false d = refl

        alone : (b : Bool) → ((b && true) || (b && false)) ≡ b
        alone true = refl
        alone false = refl

        neither : (a b d : Bool) → (a && b) ≡ false → (a && (b && d)) ≡ false
        neither true true d e = contrary refl e
        neither true false d e = refl
        neither false b d e = refl

    pub bases_stand : let b = bases_from t 0 no_base slices in
        join_few b.fixed b.endless ≡ tally_from (stands slices t) 0 Zero slices
    bases_stand =
        ap₂ join_few (fixed_from 0 no_base slices)
        (endless_from 0 no_base slices ∙ ap (λ (a : Few). tally_from (endless_at last) 0 a slices) (none_yet (before (record { 0 = 0 }) last)))
        ∙ sym (tally_join fixed_at (endless_at last) apart 0 Zero Zero slices)
        ∙ tally_same (λ s. fixed_at s || endless_at last s) (stands slices t) 0 Zero slices stands_either
      where
        none_yet : (b : Bool) → cond b Zero Zero ≡ Zero
        none_yet true = refl
        none_yet false = refl

        never : (b c d e : Bool) → (b && (c && not d)) ≡ true → (b && (c && (d && e))) ≡ false
        never true true true e h = contrary h refl
        never true true false e h = refl
        never true false d e h = refl
        never false c d e h = refl

        apart : (s : Slice) → fixed_at s ≡ true → endless_at last s ≡ false
        apart s = never (begun t s) (before t s.period.end) (is_none s.period.end) (same_instant (begin_of s) last)
