-- A sweep over the events of a table in order: what it has passed by an event, and that this tells the permanent state at each
-- change instant. Assumes nothing.
use Prim.Native.Nat.{ℕ, suc, ◌+◌, ◌≤◌, ◌<◌}
use mathlib.Core.Path.{◌≡◌, refl, sym, ap, ◌∙◌, subst}
use mathlib.Core.Bool.{true, false, not}
use mathlib.Core.List.{List, [], ◌∷◌}
use mathlib.Core.Logic.{◌⊎◌, inl, inr, ⊎_elim}
use lib.ListN.{length, drop, get_or}
use lib.Seq.{drop-cons}
use Rattle.laws.specs.Keyed.{In, Rising}
use Rattle.laws.proofs.Tests.{tests, pick_ind, by-test, or_either}
use Rattle.laws.proofs.Lists.{in_drop}
use Rattle.laws.proofs.Put.{rising_pair}
use Rattle.numbers.specs.Numbers.{no_instant, none, is_none, given, same_instant}
use Rattle.numbers.specs.declared.Instant.{Instant}
use Rattle.numbers.proofs.Facts.{none_true, at_most_true, same_true, at_most_of}
use Rattle.numbers.proofs.Orders.{instant_of_lem}
use Rattle.events.specs.Order.{time_of, place_of, Pairs}
use Rattle.events.proofs.Ordering.{Ordered, pairs_drop}
use Rattle.slice.specs.Record.{baseline, permdelta, key_less, same_key, Slice}
use Rattle.slice.proofs.Keys.{key_order}
use Rattle.table.specs.Header.{count_of}
use Rattle.table.specs.declared.check.Sides.TheVariants.{Permanent}
use Rattle.table.proofs.Sound.{sound_table}
use Rattle.history.specs.Counted.{counts, slice_key}
use Rattle.history.specs.Changes.{changes_by, change_instants, next_of}
use Rattle.history.specs.Derived.{two_anchors}
use Rattle.history.specs.Permanent.{permanent_at}
use Rattle.history.specs.Sweep.{seen, tells_two, tells, tells_next, is_counted, comes_behind, Falling, Passed}
use Rattle.history.proofs.Changes.{Bounded, just_after, later, begin_changing, life_changing, delta_changing, changing_given}
use Rattle.history.proofs.Changes.{changes_from, changes_below, later_next, later_least, walk_below}
use Rattle.history.proofs.Sweep.{Spanned, state_told, two_told, next_told, behind_later, behind_level}
use Rattle.state.specs.Asking.{slices_of}
use Rattle.state.proofs.Slices.{sound_rising, slices_length, slice_at_lem}
use Rattle.baselines.specs.Noting.{head_of}
use Rattle.baselines.proofs.Noted.{slices_bounded, slice_at, count_most}
use Rattle.baselines.proofs.Events.{Behind, IsBegin, Eventful, counted_given, base_span, in_slices}

-- ---- events in order
abbrev Later : ℕ → ℕ → Type 0
Later = Ordered Behind

head_least : (l : List ℕ) → Pairs Later l → (e : ℕ) → In e l → (head_of l).0 ≤ (time_of e).0
head_least [] _ e x3 = elim x3 [ ]
head_least (f ∷ l) (low, h) e (inl q) = let z = ap (λ x. (time_of x).0) q in omega tests
head_least (f ∷ l) (low, h) e (inr m) = ⊎_elim (λ k. omega tests) (λ (k, _). omega tests) (low e m)

-- where the first is not of an instant that none comes before, all are later
head_beyond : (l : List ℕ) (t : Instant) → Pairs Later l → ((e : ℕ) → In e l → t.0 ≤ (time_of e).0)
    → same_instant (head_of l) t ≡ false
    → (e : ℕ) → In e l → t.0 < (time_of e).0
unfolding same_instant
head_beyond [] t up all n e m = elim m [ ]
head_beyond (f ∷ l) t up all n e m = let b = all f (inl refl) in let k = head_least (f ∷ l) up e m in omega tests

head_in : (l : List ℕ) → (head_of l ≡ none) ⊎ ((e : ℕ) × In e l × (head_of l ≡ time_of e))
head_in [] = inl refl
head_in (e ∷ l) = inr (e, inl refl, refl)

-- ---- the sweep is at an event and at an instant, and has passed some slices, the latest first
pub record Run (p E : List ℕ) (at : ℕ) (t : Instant) (xs : List Slice) : Type 0 where
  pub evs : Eventful p E
  pub falling : Falling xs
  pub within : (x : Slice) → In x xs → In x (slices_of p) × (is_counted x ≡ true) × (x.period.begin.0 ≤ t.0)
  pub passed : (e : ℕ) → In e E
      → In e (drop at E) ⊎ (((time_of e).0 ≤ t.0) × (place_of e < count_of p → In (slice_at p (place_of e)) xs))
  pub ahead : (e : ℕ) → In e (drop at E) → t.0 ≤ (time_of e).0
  pub behind : (x : Slice) → In x xs → (e : ℕ) → In e (drop at E) → place_of e < count_of p
      → comes_behind (slice_at p (place_of e)) x ≡ true

module _ {p E : List ℕ} (evs : Eventful p E) where
  abbrev slices : List Slice
  slices = slices_of p

  up : Rising slice_key key_less same_key slices
  up = sound_rising p Permanent evs.sound

  bounded : Bounded slices
  bounded = slices_bounded p evs.bytes

  -- ---- its events and its slices
  few : count_of p ≤ 256
  few = count_most p evs.sound

  of_record : (e : ℕ) → In e E → place_of e < 256 → IsBegin p e
  of_record e m h = ⊎_elim (λ g. g) (λ g. absurd (omega (tests, g.0))) (evs.from e m)

  -- a slice at a higher place has a higher key
  by_place : (i j : ℕ) → i < j → j < count_of p → key_less (slice_key (slice_at p i)) (slice_key (slice_at p j)) ≡ true
  by_place i j h k =
      let d = slice_at p j in
      let z = (sound_table Permanent p evs.sound).roomy in
      let a = slice_at_lem p i d (omega tests) z in
      let b = slice_at_lem p j d k z in
      (λ n. key_less (slice_key (sym a n)) (slice_key (sym b n)))
      ∙ rising_pair slice_key key_less same_key key_order slices up i j d h (omega (tests, slices_length p))

  -- the time of an event is a change instant
  event_changing : (e : ℕ) → In e E → In (time_of e) (change_instants slices)
  unfolding is_counted
  event_changing e m =
      ⊎_elim
      (λ (l, z, c). let d = slice_at p (place_of e) in
      let i = in_slices p evs.bytes evs.sound (place_of e) l in
      let g = sym (counted_given p evs.bytes evs.sound d i) ∙ c in
      rw (← z) (changing_given slices d.period.begin (⊎_elim (begin_changing slices d i) (delta_changing slices d i)
      (or_either (counts baseline d) (counts permdelta d) c)) g))
      (λ (q, b, i, c, z, g). changing_given slices (time_of e) (rw z at (life_changing slices b i c)) g)
      (evs.from e m)

  -- the first of them is the first change instant
  first_least : (x : Instant) → In x (change_instants slices) → (head_of E).0 ≤ x.0
  unfolding changes_by is_counted
  first_least x m =
      let ((s, i, k), g) = changes_from slices x m in
      let at-begin : is_counted s ≡ true → (head_of E).0 ≤ s.period.begin.0 =
      λ c. let (e, n, _, _, z) = evs.begin s i c in rw (← z) (head_least E evs.order e n) in
      pick_ind (λ l. In x l → (head_of E).0 ≤ x.0) (counts baseline s)
      (λ c. let b = at-begin (rw c) in
      ⊎_elim (λ q. rw q b)
      (⊎_elim (λ q. let (u, _) = base_span p evs.bytes evs.sound s i c in rw q (omega tests))
      (⊎_elim (λ q. let (e, n, y) = evs.gone s i c (subst (λ z. given z ≡ true) q g) in
      rw (q, ← y) (head_least E evs.order e n)) (λ a. absurd a))))
      (λ b. pick_ind (λ l. In x l → (head_of E).0 ≤ x.0) (counts permdelta s)
      (λ c. ⊎_elim (λ q. rw q (at-begin (rw (b, c)))) (λ a. absurd a))
      (λ _ a. absurd a))
      k

  pub first_here : head_of E ≡ next_of (later slices (record { 0 = 0 }))
  first_here =
      let zero : Instant = record { 0 = 0 } in
      let n = next_of (later slices zero) in
      let low = walk_below slices zero bounded in
      let (a, b) : ((head_of E).0 ≤ no_instant) × (n.0 ≤ (head_of E).0) =
      ⊎_elim (λ q. rw q (omega tests, low))
      (λ (e, m, q). let i = event_changing e m in
      let k = changes_below slices bounded (time_of e) i in
      rw q (omega tests, later_least slices zero (time_of e) i (omega tests))) (head_in E) in
      instant_of_lem (head_of E) n
      (⊎_elim (λ q. let z = ap (λ i. i.0) q in omega tests) (λ (m, _). let k = first_least n m in omega tests)
      (later_next slices zero))

  pub run_start : Run p E 0 (head_of E) []
  run_start = record {
    evs = evs;
    falling = tt;
    within = λ x m. absurd m;
    passed = λ e m. inl m;
    ahead = head_least E evs.order;
    behind = λ x m. absurd m;
  }

module _ {p E : List ℕ} {at : ℕ} {t : Instant} {xs : List Slice} (run : Run p E at t xs) where
  abbrev evs : Eventful p E
  evs = run.evs

  abbrev left : List ℕ
  left = drop at E

  least : (e : ℕ) → In e left → (head_of left).0 ≤ (time_of e).0
  least = head_least left (pairs_drop Later at E evs.order)

  -- to a later instant, which no event that is ahead comes before
  pub run_on : (u : Instant) → t.0 ≤ u.0 → u.0 ≤ (head_of left).0 → Run p E at u xs
  run_on u l k = record {
    evs = evs;
    falling = run.falling;
    within = λ x m. let (i, c, b) = run.within x m in (i, c, omega tests);
    passed = λ e m. ⊎_elim inl (λ (b, h). inr (omega tests, h)) (run.passed e m);
    ahead = λ e m. let z = least e m in omega tests;
    behind = run.behind;
  }

  -- ---- one event of the instant
  module _ (more : at < length E) (now : same_instant (head_of left) t ≡ true) where
    abbrev event : ℕ
    event = get_or E at 0

    rest-is : left ≡ event ∷ drop (at + 1) E
    rest-is =
        let z : suc at ≡ at + 1 = omega tests in
        drop-cons E at 0 more ∙ ap (λ (n : ℕ). event ∷ drop n E) z

    here : In event left
    here = subst (In event) (sym rest-is) (inl refl)

    time_is : (time_of event).0 ≡ t.0
    time_is = ap (λ l. (head_of l).0) (sym rest-is) ∙ same_true (head_of left) t now

    still : (e : ℕ) → In e (drop (at + 1) E) → In e left
    still e m = subst (In e) (sym rest-is) (inr m)

    -- that of a record: it stands in the table, begins there and counts
    pub record_here : place_of event < 256 → let x = slice_at p (place_of event) in
        (place_of event < count_of p) × (x.period.begin ≡ t) × (is_counted x ≡ true)
    record_here h =
        let (l, b, c) = of_record evs event (in_drop at E event here) h in
        (l, b ∙ instant_of_lem (time_of event) t time_is, c)

    -- a later event of a record is of one that comes behind it
    comes : place_of event < 256 → (f : ℕ) → In f (drop (at + 1) E) → place_of f < count_of p
        → comes_behind (slice_at p (place_of f)) (slice_at p (place_of event)) ≡ true
    comes h f m k =
        let i = place_of event in
        let j = place_of f in
        let b = ap (λ u. u.0) (of_record evs event (in_drop at E event here) h).1 in
        let c = ap (λ u. u.0) (of_record evs f (in_drop (at + 1) E f m) (omega (tests, few evs))).1 in
        let (low, _) = subst (Pairs Later) rest-is (pairs_drop Later at E evs.order) in
        ⊎_elim (λ l. behind_later (slice_at p j) (slice_at p i) (omega tests))
        (λ (l, o). ⊎_elim (λ q. behind_level (slice_at p j) (slice_at p i) (omega tests) (by_place evs i j q k))
        (λ q. absurd (omega (tests, few evs))) o)
        (low f m)

    -- the event is passed, with some slices: its own, if it is that of a record
    passing : (ys : List Slice) → ((x : Slice) → In x xs → In x ys)
        → (place_of event < count_of p → In (slice_at p (place_of event)) ys) → (e : ℕ) → In e E
        → In e (drop (at + 1) E) ⊎ (((time_of e).0 ≤ t.0) × (place_of e < count_of p → In (slice_at p (place_of e)) ys))
    passing ys more own e m =
        ⊎_elim (λ n. ⊎_elim (λ q. inr (rw q (omega (tests, time_is), own))) inl (subst (In e) rest-is n))
        (λ (b, g). inr (b, λ l. more (slice_at p (place_of e)) (g l))) (run.passed e m)

    pub run_record : place_of event < 256 → Run p E (at + 1) t (slice_at p (place_of event) ∷ xs)
    run_record h = let (l, b, c) = record_here h in record {
      evs = evs;
      falling = (λ y m. run.behind y m event here l, run.falling);
      within = λ x. ⊎_elim
          (λ q. rw q (in_slices p evs.bytes evs.sound (place_of event) l, c, let z = ap (λ u. u.0) b in omega tests))
          (run.within x);
      passed = passing (slice_at p (place_of event) ∷ xs) (λ x m. inr m) (λ _. inl refl);
      ahead = λ e m. run.ahead e (still e m);
      behind = λ x m e n l. ⊎_elim (λ q. rw q (comes h e n l)) (λ i. run.behind x i e (still e n) l) m;
    }

    -- a life end is only an instant
    pub run_gone : (place_of event < 256 → ⊥) → Run p E (at + 1) t xs
    run_gone h = record {
      evs = evs;
      falling = run.falling;
      within = run.within;
      passed = passing xs (λ x m. m) (λ l. absurd (h (omega (tests, few evs))));
      ahead = λ e m. run.ahead e (still e m);
      behind = λ x m e n l. run.behind x m e (still e n) l;
    }

  -- ---- all events of the instant are passed
  module _ (over : same_instant (head_of left) t ≡ false) where
    abbrev next : Instant
    next = head_of left

    -- what is ahead is later
    beyond : (e : ℕ) → In e left → t.0 < (time_of e).0
    beyond = head_beyond left t (pairs_drop Later at E evs.order) run.ahead over

    all_passed : Passed (slices_of p) t xs
    all_passed = record {
      falling = run.falling;
      within = λ x m. let (i, c, b) = run.within x m in (i, c, at_most_of x.period.begin t b);
      covers = λ x m c b. let (e, i, l, q, z) = evs.begin x m c in
          ⊎_elim (λ n. absurd (let k = rw z at (beyond e n) in omega (tests, at_most_true x.period.begin t b)))
          (λ (_, h). subst (λ y. In y xs) q (h l)) (run.passed e i);
    }

    spans : Spanned (slices_of p)
    spans = base_span p evs.bytes evs.sound

    pub two_here : In t (change_instants (slices_of p)) → tells_two (seen xs) t ≡ true → two_anchors (slices_of p) ≡ true
    two_here = two_told (slices_of p) (up evs) spans t xs all_passed

    pub state_here : tells_two (seen xs) t ≡ false → permanent_at t (slices_of p) ≡ tells (seen xs) t
    state_here = state_told (slices_of p) (up evs) spans t xs all_passed

    pub next_here : tells_two (seen xs) t ≡ false → tells_next (seen xs) t next ≡ next_of (later (slices_of p) (just_after t))
    next_here h =
        next_told (slices_of p) (up evs) spans t xs all_passed (bounded evs) h next among begins lives
      where
        among : (next ≡ none) ⊎ (In next (change_instants (slices_of p)) × (t.0 < next.0))
        among = ⊎_elim inl (λ (e, m, q). inr (rw q (event_changing evs e (in_drop at E e m), beyond e m))) (head_in left)

        below : next.0 ≤ no_instant
        below = ⊎_elim (λ q. rw q (omega tests))
            (λ (m, _). let k = changes_below (slices_of p) (bounded evs) next m in omega tests) among

        -- an event that is later than t is ahead
        later_event : (e : ℕ) (u : Instant) → In e E → time_of e ≡ u → t.0 < u.0 → next.0 ≤ u.0
        later_event e u m q l =
            rw (← q) (⊎_elim (least e) (λ (b, _). absurd (let z = ap (λ i. i.0) q in omega tests)) (run.passed e m))

        begins : (x : Slice) → In x (slices_of p) → is_counted x ≡ true → t.0 < x.period.begin.0 → next.0 ≤ x.period.begin.0
        begins x m c = let (e, i, _, _, z) = evs.begin x m c in later_event e x.period.begin i z

        lives : (b : Slice) → In b (slices_of p) → counts baseline b ≡ true → t.0 < b.life.end.0 → next.0 ≤ b.life.end.0
        lives b m c l =
            by-test (is_none b.life.end) (λ q. let z = none_true b.life.end q in omega (tests, below))
            (λ n. let (e, i, q) = evs.gone b m c (ap not n) in later_event e b.life.end i q l)
