-- The change instants: they rise and are given, each time by which a slice changes the state is among them, and a walk from one to
-- the next goes through them all. Assumes nothing.
use Prim.Native.Nat.{◌+◌, ◌≤◌, ◌<◌}
use mathlib.Core.Path.{◌≡◌, refl, sym, ap, ◌∙◌, subst}
use mathlib.Core.List.{List, [], ◌∷◌, map}
use mathlib.Core.Bool.{true, false, not}
use mathlib.Core.Logic.{◌⊎◌, inl, inr, ⊎_elim}
use borrow.Author.Tests.{not-true}
use Rattle.laws.specs.Lists.{kept, joined}
use Rattle.laws.specs.Keyed.{In, Rising}
use Rattle.laws.proofs.Tests.{tests, pick_ind, by-test, contrary}
use Rattle.laws.proofs.Lists.{kept_in, kept_all}
use Rattle.laws.proofs.Fresh.{sorted_rising, sorted_within, sorted_key}
use Rattle.numbers.specs.Numbers.{no_instant, none, is_none, given, before, at_most, same_instant}
use Rattle.numbers.specs.declared.Instant.{Instant}
use Rattle.numbers.proofs.Facts.{none_true, none_false}
use Rattle.numbers.proofs.Orders.{instant_of_lem, instant_order}
use Rattle.slice.specs.Record.{baseline, permdelta, Slice}
use Rattle.history.specs.Counted.{counts}
use Rattle.history.specs.Changes.{changes_by, change_instants, next_of}
use Rattle.history.proofs.Selection.{kept_rising, joined_in}

-- instants in strictly rising order
abbrev pub Risen : List Instant → Type 0
Risen = Rising (λ t. t) before same_instant

-- a slice of some changes the state at x
abbrev pub Change : List Slice → Instant → Type 0
Change slices x = (s : Slice) × In s slices × In x (changes_by s)

-- x is none or a change instant
abbrev pub Changing : List Slice → Instant → Type 0
Changing slices x = (x ≡ none) ⊎ In x (change_instants slices)

-- no change lies above none
abbrev pub Bounded : List Slice → Type 0
Bounded slices = (s : Slice) → In s slices → (x : Instant) → In x (changes_by s) → x.0 ≤ no_instant

-- ---- what is among them
module _ (slices : List Slice) where
  pub changes_rising : Risen (change_instants slices)
  unfolding change_instants
  changes_rising = sorted_rising (λ t. t) before same_instant instant_order (kept given (joined (map changes_by slices)))

  -- each is given, and one by which a slice changes the state
  pub changes_from : (t : Instant) → In t (change_instants slices) → Change slices t × (given t ≡ true)
  unfolding change_instants
  changes_from t m =
      let all = joined (map changes_by slices) in
      let (n, g) = (kept_in given all t).0 (sorted_within (λ t. t) before same_instant instant_order (kept given all) t m) in
      ((joined_in changes_by slices t).0 n, g)

  pub changes_given : (t : Instant) → In t (change_instants slices) → given t ≡ true
  changes_given t m = (changes_from t m).1

  pub changes_below : Bounded slices → (t : Instant) → In t (change_instants slices) → t.0 < no_instant
  changes_below low t m =
      let ((s, i, j), g) = changes_from t m in
      let l : t.0 ≤ no_instant = low s i t j in
      let n = none_false t (not-true (is_none t) g) in
      omega tests

  -- each time by which a slice changes the state is none or among them
  pub changing : (x : Instant) → Change slices x → Changing slices x
  unfolding change_instants
  changing x c =
      by-test (is_none x) (λ e. inl (instant_of_lem x none (none_true x e)))
      (λ n. let all = joined (map changes_by slices) in
      let (y, m, e) =
      sorted_key (λ t. t) before same_instant instant_order (kept given all) x
      ((kept_in given all x).1 ((joined_in changes_by slices x).1 c, ap not n)) in
      inr (subst (λ z. In z (change_instants slices)) e m))

  pub changing_given : (x : Instant) → Changing slices x → given x ≡ true → In x (change_instants slices)
  changing_given x c g = ⊎_elim (λ e. absurd (none_false x (not-true (is_none x) g) (ap (λ i. i.0) e))) (λ m. m) c

  -- the begin, end and life end of a counted BASELINE; the instant of a counted PERMDELTA
  module _ (s : Slice) (m : In s slices) where
    baseline_changing : counts baseline s ≡ true → (x : Instant) → In x (s.period.begin ∷ s.period.end ∷ s.life.end ∷ [])
        → Changing slices x
    unfolding changes_by
    baseline_changing c x k = changing x (s, m, rw c k)

    pub begin_changing : counts baseline s ≡ true → Changing slices s.period.begin
    begin_changing c = baseline_changing c s.period.begin (inl refl)

    pub end_changing : counts baseline s ≡ true → Changing slices s.period.end
    end_changing c = baseline_changing c s.period.end (inr (inl refl))

    pub life_changing : counts baseline s ≡ true → Changing slices s.life.end
    life_changing c = baseline_changing c s.life.end (inr (inr (inl refl)))

    pub delta_changing : counts permdelta s ≡ true → Changing slices s.period.begin
    unfolding changes_by
    delta_changing c =
        changing s.period.begin
        (s, m, pick_ind (λ l. In s.period.begin l) (counts baseline s) (λ _. inl refl) (λ _. rw c (inl refl)))

-- ---- those at or after an instant
pub next_in : (l : List Instant) → (next_of l ≡ none) ⊎ In (next_of l) l
next_in [] = inl refl
next_in (t ∷ ts) = inr (inl refl)

pub next_least : (l : List Instant) → Risen l → (x : Instant) → In x l → (next_of l).0 ≤ x.0
unfolding before
next_least [] up x x4 = elim x4 [ ]
next_least (t ∷ ts) up x (inl e) = omega (tests, ap (λ i. i.0) e)
next_least (t ∷ ts) (low, up) x (inr m) = omega (tests, low x m)

-- where the first of given instants is none there are none
pub next-none : (l : List Instant) → ((x : Instant) → In x l → given x ≡ true) → is_none (next_of l) ≡ true → l ≡ []
next-none [] g e = refl
next-none (t ∷ ts) g e = contrary e (not-true (is_none t) (g t (inl refl)))

abbrev pub just_after : Instant → Instant
just_after t = record { 0 = t.0 + 1 }

next_first : (v : Instant) (l : List Instant) → Risen l → is_none (next_of (kept (at_most v) l)) ≡ false
    → kept (at_most v) l ≡ next_of (kept (at_most v) l) ∷ kept (at_most (just_after (next_of (kept (at_most v) l)))) l
unfolding at_most before
next_first v [] up = λ n. absurd (none_false none n refl)
next_first v (x ∷ l) (low, up) =
    pick_ind (λ k. is_none (next_of k) ≡ false → k ≡ next_of k ∷ kept (at_most (just_after (next_of k))) (x ∷ l)) (at_most v x)
    (λ y _. ap (λ (k : List Instant). x ∷ k)
    (all v (λ z m. omega (tests, low z m)) ∙ sym (past x (omega tests) ∙ all (just_after x) (λ z m. omega (tests, low z m)))))
    (λ f n. next_first v l up n
    ∙ ap (λ (k : List Instant). next_of (kept (at_most v) l) ∷ k) (sym (past (next_of (kept (at_most v) l)) (ahead f n))))
  where
    all : (u : Instant) → ((z : Instant) → In z l → u.0 ≤ z.0) → kept (at_most u) l ≡ l
    all u h = kept_all (at_most u) l (λ z m. omega (tests, h z m))

    past : (t : Instant) → x.0 ≤ t.0 → kept (at_most (just_after t)) (x ∷ l) ≡ kept (at_most (just_after t)) l
    past t h = let p : at_most (just_after t) x ≡ false = omega tests in rw p

    ahead : at_most v x ≡ false → is_none (next_of (kept (at_most v) l)) ≡ false → x.0 ≤ (next_of (kept (at_most v) l)).0
    ahead f n =
        let t = next_of (kept (at_most v) l) in
        ⊎_elim (λ e. absurd (none_false t n (ap (λ i. i.0) e))) (λ m. omega (tests, ((kept_in (at_most v) l t).0 m).1))
        (next_in (kept (at_most v) l))

module _ (slices : List Slice) where
  -- all, from instant 0 on
  pub walk_all : kept (at_most (record { 0 = 0 })) (change_instants slices) ≡ change_instants slices
  unfolding at_most
  walk_all = kept_all (at_most (record { 0 = 0 })) (change_instants slices) (λ x m. omega tests)

  module _ (v : Instant) where
    abbrev pub later : List Instant
    later = kept (at_most v) (change_instants slices)

    -- the first of them is none or a change instant at or after v, and no other such comes before it
    pub later_next : (next_of later ≡ none) ⊎ (In (next_of later) (change_instants slices) × (v.0 ≤ (next_of later).0))
    unfolding at_most
    later_next =
        ⊎_elim inl (λ m. let (i, l) = (kept_in (at_most v) (change_instants slices) (next_of later)).0 m in inr (i, omega tests))
        (next_in later)

    pub later_least : (x : Instant) → In x (change_instants slices) → v.0 ≤ x.0 → (next_of later).0 ≤ x.0
    unfolding at_most
    later_least x m l =
        next_least later (kept_rising (λ t. t) before same_instant (at_most v) (change_instants slices) (changes_rising slices)) x
        ((kept_in (at_most v) (change_instants slices) x).1 (m, omega tests))

    pub walk_on : v.0 ≤ no_instant → v.0 ≤ (next_of later).0
    walk_on l = ⊎_elim (λ e. omega (tests, ap (λ i. i.0) e)) (λ (m, k). k) later_next

    pub walk_below : Bounded slices → (next_of later).0 ≤ no_instant
    walk_below low =
        ⊎_elim (λ e. omega (tests, ap (λ i. i.0) e))
        (λ (m, k). omega (tests, changes_below slices low (next_of later) m)) later_next

    -- where the first is none there are none
    pub walk_end : is_none (next_of later) ≡ true → later ≡ []
    walk_end = next-none later (λ x m. changes_given slices x ((kept_in (at_most v) (change_instants slices) x).0 m).0)

  -- and where it is given the others are those after it
  pub walk-next : (v : Instant) → is_none (next_of (later v)) ≡ false
      → later v ≡ next_of (later v) ∷ later (just_after (next_of (later v)))
  walk-next v = next_first v (change_instants slices) (changes_rising slices)
