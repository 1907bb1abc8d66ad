-- What a sweep over the slices in order of their begins tells of an instant: the anchor, whether two stand, and the next change
-- instant. Assumes nothing.
use Prim.Native.Nat.{suc, ◌≤◌, ◌<◌}
use mathlib.Core.Path.{◌≡◌, refl, sym, ap, ◌∙◌}
use mathlib.Core.List.{List, [], ◌∷◌}
use mathlib.Core.Bool.{Bool, true, false, cond, not, ◌&&◌, ◌||◌, and-true, or-true}
use mathlib.Core.Logic.{◌⊎◌, inl, inr, ⊎_elim}
use mathlib.Core.Option.{Option, none as nobody, some, none-ne-some, some-injective}
use lib.Dec.{eqb, ltb}
use borrow.Author.Tests.{not-true}
use Rattle.laws.specs.Lists.{any, kept}
use Rattle.laws.specs.Keyed.{In, Rising}
use Rattle.laws.specs.Orders.{lex_less}
use Rattle.laws.proofs.Tests.{tests, pick_ind, by-test, contrary, never, and_both, or_either, or_neither}
use Rattle.laws.proofs.Lists.{any_none, kept_in}
use Rattle.numbers.specs.Numbers.{no_instant, none, is_none, given, before, at_most, same_instant}
use Rattle.numbers.specs.declared.Instant.{Instant}
use Rattle.numbers.proofs.Facts.{none_true, none_false, before_true}
use Rattle.numbers.proofs.Orders.{instant_of_lem}
use Rattle.slice.specs.Record.{baseline, permdelta, key_less, same_key, Slice}
use Rattle.slice.proofs.Keys.{key_irrefl}
use Rattle.history.specs.Counted.{counts, holds, slice_key}
use Rattle.history.specs.Period.{until}
use Rattle.history.specs.Parts.{begun as begun_by}
use Rattle.history.specs.Anchor.{Anchor, based, opened, nowhere, two, only, stands, opens, anchor}
use Rattle.history.specs.Changes.{changes_by, change_instants, next_of}
use Rattle.history.specs.Permanent.{standing_from, permanent_at}
use Rattle.history.specs.Derived.{has_two, two_anchors}
use Rattle.history.specs.Sweep.{meets, begun, changed, seen, last_base, first_open, tells_two, tells, tells_next, is_counted}
use Rattle.history.specs.Sweep.{comes_behind, Falling, Passed}
use Rattle.history.proofs.Selection.{kept_none}
use Rattle.history.proofs.Orders.{counts_kind}
use Rattle.history.proofs.Changes.{Bounded, changes_from, changes_below, changing_given, begin_changing, end_changing}
use Rattle.history.proofs.Changes.{just_after, later, later_next, later_least, walk_below}
use Rattle.history.proofs.Periods.{LastBegun, until_open, until_fixed}
use Rattle.history.proofs.SweepLines.{by, line_told}

-- ---- one behind another
-- one that begins later comes behind, and so does one of a higher key that begins with it
pub behind_later : (d e : Slice) → e.period.begin.0 < d.period.begin.0 → comes_behind d e ≡ true
unfolding comes_behind lex_less before
behind_later d e h = let b : ltb e.period.begin.0 d.period.begin.0 ≡ true = omega tests in rw b

pub behind_level : (d e : Slice) → e.period.begin.0 ≡ d.period.begin.0 → key_less (slice_key e) (slice_key d) ≡ true
    → comes_behind d e ≡ true
unfolding comes_behind lex_less before same_instant
behind_level d e h k =
    let b : ltb e.period.begin.0 d.period.begin.0 ≡ false = omega tests in
    let s : eqb e.period.begin.0 d.period.begin.0 ≡ true = omega tests in
    rw (b, s, k)

behind_begin : (x y : Slice) → comes_behind x y ≡ true → y.period.begin.0 ≤ x.period.begin.0
unfolding comes_behind lex_less before same_instant
behind_begin x y h =
    let a = y.period.begin.0 in
    let b = x.period.begin.0 in
    ⊎_elim (λ (p : ltb a b ≡ true). omega tests) (λ p. omega (tests, (and_both (eqb a b) (key_less (slice_key y) (slice_key x)) p).0))
    (or_either (ltb a b) (eqb a b && key_less (slice_key y) (slice_key x)) h)

behind_apart : (x y : Slice) → comes_behind x y ≡ true → x ≡ y → ⊥
unfolding comes_behind lex_less before same_instant
behind_apart x y h e = self (ap (λ (z : Slice). comes_behind x z) e ∙ h)
  where
    self : comes_behind x x ≡ true → ⊥
    self k =
        let a = x.period.begin.0 in
        ⊎_elim (λ (p : ltb a a ≡ true). omega tests)
        (λ p. key_irrefl (slice_key x) (and_both (eqb a a) (key_less (slice_key x) (slice_key x)) p).1)
        (or_either (ltb a a) (eqb a a && key_less (slice_key x) (slice_key x)) k)

-- ---- the BASELINE that began last
abbrev is_base : Slice → Bool
is_base x = eqb x.kind baseline

seen_base : (xs : List Slice) (b : Slice) → last_base xs ≡ some b
    → ((seen xs).begin ≡ b.period.begin) × ((seen xs).end ≡ b.period.end)
unfolding begun changed
seen_base [] b e = absurd (none-ne-some b e)
seen_base (x ∷ xs) b e =
    by-test (is_base x)
    (λ y. let p = some-injective x b (rw y at e) in rw y (ap (λ s. s.period.begin) p, ap (λ s. s.period.end) p))
    (λ n. rw n (seen_base xs b (rw n at e)))

seen_none : (xs : List Slice) → last_base xs ≡ nobody → ((seen xs).begin ≡ none) × ((seen xs).end.0 ≡ 0)
unfolding changed
seen_none [] e = (refl, refl)
seen_none (x ∷ xs) e =
    by-test (is_base x) (λ y. absurd (none-ne-some x (sym (rw y at e)))) (λ n. rw n (seen_none xs (rw n at e)))

base_in : (xs : List Slice) (b : Slice) → last_base xs ≡ some b → In b xs × (is_base b ≡ true)
base_in [] b e = absurd (none-ne-some b e)
base_in (x ∷ xs) b e =
    by-test (is_base x)
    (λ y. let p = some-injective x b (rw y at e) in (inl (sym p), ap is_base (sym p) ∙ y))
    (λ n. let (m, y) = base_in xs b (rw n at e) in (inr m, y))

no_base_lem : (xs : List Slice) → last_base xs ≡ nobody → (x : Slice) → In x xs → is_base x ≡ true → ⊥
no_base_lem [] e x m k = elim m [ ]
no_base_lem (y ∷ ys) e x m k =
    by-test (is_base y) (λ p. none-ne-some y (sym (rw p at e)))
    (λ n. ⊎_elim (λ i. contrary k (ap is_base i ∙ n)) (λ i. no_base_lem ys (rw n at e) x i k) m)

-- where no two met, each other one began before it, and is without end or was over by its begin
abbrev Over : Slice → Slice → Type 0
Over x b =
    (x.period.begin.0 < b.period.begin.0) × ((x.period.end.0 ≡ no_instant) ⊎ (x.period.end.0 ≤ b.period.begin.0))

unmet : (c b : Slice) → comes_behind b c ≡ true → meets c.period.begin c.period.end b.period.begin ≡ false → Over c b
unfolding meets same_instant before
unmet c b h n =
    let (p, q) = or_neither (same_instant c.period.begin b.period.begin)
    (given c.period.end && before b.period.begin c.period.end) n in (
      omega (tests, behind_begin b c h, p),
      by-test (is_none c.period.end) (λ y. inl (none_true c.period.end y))
          (λ k. inr (let r : before b.period.begin c.period.end ≡ false = rw k at q in omega tests)),
    )

over_trans : (x c b : Slice) → Over x c → Over c b → Over x b
over_trans x c b (p, q) (r, s) = (omega tests, ⊎_elim inl (λ h. inr (omega tests)) q)

others_over : (xs : List Slice) → Falling xs → (seen xs).two ≡ false → (b : Slice) → last_base xs ≡ some b → (x : Slice) → In x xs
    → is_base x ≡ true → (x ≡ b) ⊎ Over x b
unfolding begun changed
others_over [] _ n b e x m k = elim m [ ]
others_over (y ∷ ys) (low, fall) n b e x m k =
    by-test (is_base y)
    (λ p. let i = some-injective y b (rw p at e) in
    let (n1, n2) = or_neither (seen ys).two (meets (seen ys).begin (seen ys).end y.period.begin) (rw p at n) in
    ⊎_elim (λ j. inl (j ∙ i)) (λ j. inr (rw (← i) (older n2 j (λ c f. others_over ys fall n1 c f x j k) (last_base ys) refl))) m)
    (λ p. ⊎_elim (λ j. contrary k (ap is_base j ∙ p)) (λ j. others_over ys fall (rw p at n) b (rw p at e) x j k) m)
  where
    older : meets (seen ys).begin (seen ys).end y.period.begin ≡ false → In x ys
        → ((c : Slice) → last_base ys ≡ some c → (x ≡ c) ⊎ Over x c) → (v : Option Slice) → last_base ys ≡ v → Over x y
    older n2 j ih nobody f = absurd (no_base_lem ys f x j k)
    older n2 j ih (some c) f =
        let (p, q) = seen_base ys c f in
        let o = unmet c y (low c (base_in ys c f).0) (rw (p, q) at n2) in
        ⊎_elim (λ i. rw i o) (λ h. over_trans x c y h o) (ih c f)

-- where two met, both hold at the begin of the later one
record Met (xs : List Slice) : Type 0 where
  held : Slice
  joins : Slice
  held_passed : In held xs × (is_base held ≡ true)
  joins_passed : In joins xs × (is_base joins ≡ true)
  behind : comes_behind joins held ≡ true
  meet : meets held.period.begin held.period.end joins.period.begin ≡ true

-- before the first, none is met
none_meets : (t : Instant) → t.0 < no_instant → meets none (record { 0 = 0 }) t ≡ true → ⊥
unfolding meets same_instant before
none_meets t l q =
    ⊎_elim (λ r. omega (tests, r)) (λ r. omega (tests, (and_both (given (record { 0 = 0 })) (ltb t.0 0) r).1))
    (or_either (eqb no_instant t.0) (given (record { 0 = 0 }) && ltb t.0 0) q)

met : (xs : List Slice) → Falling xs → ((x : Slice) → In x xs → is_base x ≡ true → x.period.begin.0 < no_instant)
    → (seen xs).two ≡ true → Met xs
unfolding begun changed
met [] fall low h = contrary h refl
met (y ∷ ys) (behind, fall) low h =
    by-test (is_base y)
    (λ p. ⊎_elim (λ q. wider (met ys fall (λ x m. low x (inr m)) q)) (λ q. here p q (last_base ys) refl)
    (or_either (seen ys).two (meets (seen ys).begin (seen ys).end y.period.begin) (rw p at h)))
    (λ n. wider (met ys fall (λ x m. low x (inr m)) (rw n at h)))
  where
    wider : Met ys → Met (y ∷ ys)
    wider w = record {
      held = w.held;
      joins = w.joins;
      held_passed = (inr w.held_passed.0, w.held_passed.1);
      joins_passed = (inr w.joins_passed.0, w.joins_passed.1);
      behind = w.behind;
      meet = w.meet;
    }

    here : is_base y ≡ true → meets (seen ys).begin (seen ys).end y.period.begin ≡ true → (v : Option Slice) → last_base ys ≡ v
        → Met (y ∷ ys)
    here p q nobody f =
        let (a, b) = seen_none ys f in
        absurd (none_meets y.period.begin (low y (inl refl) p) (rw (a, instant_of_lem (seen ys).end (record { 0 = 0 }) b) at q))
    here p q (some c) f =
        let (m, k) = base_in ys c f in
        let (a, b) = seen_base ys c f in
        record {
          held = c;
          joins = y;
          held_passed = (inr m, k);
          joins_passed = (inl refl, p);
          behind = behind c m;
          meet = rw (a, b) at q;
        }

-- ---- the PERMDELTAs that open
abbrev is_opening : Slice → Bool
is_opening x = not (is_base x) && given x.life.begin

seen_openings : (x : Slice) (xs : List Slice)
    → (seen (x ∷ xs)).openings ≡ cond (is_opening x) (suc (seen xs).openings) (seen xs).openings
unfolding begun changed
seen_openings x xs = by-test (is_base x) (λ y. rw y) (λ n. rw n)

-- none: no first one
none_opens : (xs : List Slice) → (seen xs).openings ≡ 0
    → (first_open xs ≡ nobody) × ((x : Slice) → In x xs → is_opening x ≡ true → ⊥)
none_opens [] e = (refl, λ x m. absurd m)
none_opens (y ∷ ys) e =
    by-test (is_opening y) (λ p. absurd (omega (tests, rw p at (sym (seen_openings y ys) ∙ e))))
    (λ p. let (f, far) = none_opens ys (rw p at (sym (seen_openings y ys) ∙ e)) in
    (rw (f, p), λ x m k. ⊎_elim (λ i. contrary k (ap is_opening i ∙ p)) (λ i. far x i k) m))

-- one: the first one, and no other
abbrev OneOpen : List Slice → Type 0
OneOpen xs =
    (o : Slice) × (first_open xs ≡ some o) × (In o xs × (is_opening o ≡ true))
    × ((x : Slice) → In x xs → is_opening x ≡ true → x ≡ o)

one_opens : (xs : List Slice) → (seen xs).openings ≡ 1 → OneOpen xs
one_opens [] e = absurd (omega (tests, e))
one_opens (y ∷ ys) e =
    by-test (is_opening y)
    (λ p. let q : suc (seen ys).openings ≡ 1 = rw p at (sym (seen_openings y ys) ∙ e) in
    let (f, far) = none_opens ys (omega tests) in
    (y, rw (f, p), (inl refl, p), λ x m k. ⊎_elim (λ i. i) (λ i. absurd (far x i k)) m))
    (λ p. let (o, f, (i, q), one) = one_opens ys (rw p at (sym (seen_openings y ys) ∙ e)) in
    (o, rw f, (inr i, q), λ x m k. ⊎_elim (λ i. contrary k (ap is_opening i ∙ p)) (λ i. one x i k) m))

some_opens : (xs : List Slice) → 0 < (seen xs).openings → (o : Slice) × In o xs × (is_opening o ≡ true)
some_opens [] h = absurd (omega tests)
some_opens (y ∷ ys) h =
    by-test (is_opening y) (λ p. (y, inl refl, p))
    (λ p. let (o, m, k) = some_opens ys (rw p at (rw (seen_openings y ys) at h)) in (o, inr m, k))

-- more: there are two
abbrev TwoOpen : List Slice → Type 0
TwoOpen xs =
    (a : Slice) × (b : Slice) × (In a xs × (is_opening a ≡ true)) × (In b xs × (is_opening b ≡ true)) × (comes_behind a b ≡ true)

more_open : (xs : List Slice) → Falling xs → 1 < (seen xs).openings → TwoOpen xs
more_open [] fall h = absurd (omega tests)
more_open (y ∷ ys) (low, fall) h =
    by-test (is_opening y)
    (λ p. let q : 1 < suc (seen ys).openings = rw p at (rw (seen_openings y ys) at h) in
    let (o, m, k) = some_opens ys (omega tests) in
    (y, o, (inl refl, p), (inr m, k), low o m))
    (λ p. let (a, b, (i, k), (j, l), c) = more_open ys fall (rw p at (rw (seen_openings y ys) at h)) in
    (a, b, (inr i, k), (inr j, l), c))

-- ---- what is kept of a table where one alone passes, or two do
lower_apart : (x y : Slice) → key_less (slice_key x) (slice_key y) ≡ true → y ≡ x → ⊥
lower_apart x y h e = key_irrefl (slice_key x) (ap (λ (z : Slice). key_less (slice_key x) (slice_key z)) (sym e) ∙ h)

kept_alone : (f : Slice → Bool) (l : List Slice) → Rising slice_key key_less same_key l → (b : Slice) → In b l → f b ≡ true
    → ((x : Slice) → In x l → f x ≡ true → x ≡ b) → kept f l ≡ b ∷ []
kept_alone f [] _ b x5 y one = elim x5 [ ]
kept_alone f (x ∷ l) (low, up) b (inl e) y one =
    let p : f x ≡ true = ap f (sym e) ∙ y in
    let q = kept_none f l (λ z m. never (f z) (λ h. lower_apart x z (low z m) (one z (inr m) h ∙ e))) in
    rw (p, q) (ap (λ (a : Slice). a ∷ []) (sym e))
kept_alone f (x ∷ l) (low, up) b (inr m) y one =
    let p : f x ≡ false = never (f x) (λ q. lower_apart x b (low b m) (sym (one x (inl refl) q))) in
    rw p (kept_alone f l up b m y (λ z k. one z (inr k)))

only_two : (at : Slice → Anchor) (o : Anchor) (l : List Slice) (a b : Slice) → In a l → In b l → (a ≡ b → ⊥) → only at o l ≡ two
only_two at o [] a b i j n = elim i [ ]
only_two at o (x ∷ []) a b (inl p) (inr x14) n = elim x14 [ ]
only_two at o (x ∷ []) a b (inr x13) j n = elim x13 [ ]
only_two at o (x ∷ []) a b (inl p) (inl q) n = absurd (n (p ∙ sym q))
only_two at o (x ∷ y ∷ l) a b i j n = refl

-- ---- which BASELINEs hold
module _ (slices : List Slice) where
  -- one that has begun holds before its own end, where that is given or none began after it
  stands_begun : (u last : Instant) → LastBegun u slices last → (x : Slice) → In x slices → counts baseline x ≡ true
      → at_most x.period.begin u ≡ true
      → stands slices u x ≡ (before u x.period.end && (given x.period.end || same_instant x.period.begin last))
  unfolding stands holds begun_by
  stands_begun u last l x m c y =
      rw (c, y)
      (by-test (is_none x.period.end) (λ o. rw o (until_open u slices x last l m (begun_is c y) o))
      (λ f. rw f (rw (until_fixed u slices x f) (sym (and-true (before u x.period.end))))))
    where
      begun_is : counts baseline x ≡ true → at_most x.period.begin u ≡ true → begun_by u x ≡ true
      begun_is c y = rw (c, y)

  -- what has not begun does not hold
  stands_has : (u : Instant) (x : Slice) → stands slices u x ≡ true
      → (counts baseline x ≡ true) × (at_most x.period.begin u ≡ true)
  unfolding stands holds
  stands_has u x h =
      let (c, p) = and_both (counts baseline x) (at_most x.period.begin u && before u (until slices x)) h in
      (c, (and_both (at_most x.period.begin u) (before u (until slices x)) p).0)

-- a BASELINE ends after its begin, and none comes after all
abbrev pub Spanned : List Slice → Type 0
Spanned slices =
    (b : Slice) → In b slices → counts baseline b ≡ true
    → (b.period.begin.0 < b.period.end.0) × (b.period.end.0 ≤ no_instant)

abbrev alone : Option Slice → List Slice
alone nobody = []
alone (some x) = x ∷ []

-- the anchor, from the BASELINE that began last and the first PERMDELTA that opened
abbrev anchor_in : List Slice → Instant → Anchor
anchor_in xs t =
    cond (before t (seen xs).end) (by based (last_base xs)) (cond (eqb (seen xs).openings 1) (by opened (first_open xs)) nowhere)

module _ (slices : List Slice) (up : Rising slice_key key_less same_key slices) (span : Spanned slices) (t : Instant)
    (xs : List Slice) (passed : Passed slices t xs) where
  -- ---- the slices of an instant by their kinds
  passed_base : (x : Slice) → In x xs → is_base x ≡ true → counts baseline x ≡ true
  unfolding is_counted
  passed_base x m k =
      ⊎_elim (λ c. c) (λ c. absurd (omega (tests, k, counts_kind permdelta x c)))
      (or_either (counts baseline x) (counts permdelta x) (passed.within x m).1)

  base_passed : (x : Slice) → In x slices → counts baseline x ≡ true → at_most x.period.begin t ≡ true
      → In x xs × (is_base x ≡ true)
  unfolding is_counted
  base_passed x m c h = (passed.covers x m (rw c) h, let e = counts_kind baseline x c in omega tests)

  passed_opening : (x : Slice) → In x xs → is_opening x ≡ true → opens t x ≡ true
  unfolding is_counted opens
  passed_opening x m k =
      let (n, g) = and_both (not (is_base x)) (given x.life.begin) k in
      let (i, c, h) = passed.within x m in
      let e : counts permdelta x ≡ true =
      ⊎_elim (λ c. absurd (omega (tests, not-true (is_base x) n, counts_kind baseline x c))) (λ c. c)
      (or_either (counts baseline x) (counts permdelta x) c) in
      rw (e, g, h)

  opening_passed : (x : Slice) → In x slices → opens t x ≡ true → In x xs × (is_opening x ≡ true)
  unfolding is_counted opens
  opening_passed x m y =
      let (c, p) = and_both (counts permdelta x) (given x.life.begin && at_most x.period.begin t) y in
      let (g, h) = and_both (given x.life.begin) (at_most x.period.begin t) p in
      let e : is_base x ≡ false = (let e = counts_kind permdelta x c in omega tests) in
      (passed.covers x m (rw c (or-true (counts baseline x))) h, rw (e, g))

  -- ---- where no two met, the BASELINE that began last holds before its own end, and no other does
  module _ (one : (seen xs).two ≡ false) where
    module _ (b : Slice) (e : last_base xs ≡ some b) where
      last_in : In b slices × (counts baseline b ≡ true) × (at_most b.period.begin t ≡ true)
      last_in =
          let (m, k) = base_in xs b e in
          let (i, c, h) = passed.within b m in
          (i, passed_base b m k, h)

      others : (x : Slice) → In x slices → counts baseline x ≡ true → at_most x.period.begin t ≡ true → (x ≡ b) ⊎ Over x b
      others x m c h = let (i, k) = base_passed x m c h in others_over xs passed.falling one b e x i k

      last_begun : LastBegun t slices b.period.begin
      unfolding begun_by
      last_begun = record {
        one = let (i, c, h) = last_in in inr (b, i, rw (c, h), refl);
        most = λ s i y. let (c, h) = and_both (counts baseline s) (at_most s.period.begin t) y in
            ⊎_elim (λ p. omega (tests, ap (λ z. z.period.begin.0) p)) (λ o. omega (tests, o.0)) (others s i c h);
      }

      last_stands : stands slices t b ≡ before t b.period.end
      unfolding same_instant
      last_stands =
          let (i, c, h) = last_in in
          let s : same_instant b.period.begin b.period.begin ≡ true = omega tests in
          stands_begun slices t b.period.begin last_begun b i c h
          ∙ rw (s, or-true (given b.period.end)) (and-true (before t b.period.end))

      stands_last : (x : Slice) → In x slices → stands slices t x ≡ true → x ≡ b
      unfolding same_instant before at_most
      stands_last x m y =
          let (c, h) = stands_has slices t x y in
          let last = b.period.begin in
          let (p, q) = and_both (before t x.period.end) (given x.period.end || same_instant x.period.begin last)
          (sym (stands_begun slices t last last_begun x m c h) ∙ y) in
          ⊎_elim (λ i. i)
          (λ (l, o). absurd (⊎_elim
          (λ z. ⊎_elim (λ g. none_false x.period.end (not-true (is_none x.period.end) g) z) (λ k. omega (tests, k, l))
          (or_either (given x.period.end) (same_instant x.period.begin last) q))
          (λ z. omega (tests, z, p, last_in.2)) o))
          (others x m c h)

    -- none has begun
    none_stands : last_base xs ≡ nobody → (x : Slice) → In x slices → stands slices t x ≡ false
    none_stands e x m =
        never (stands slices t x)
        (λ y. let (c, h) = stands_has slices t x y in let (i, k) = base_passed x m c h in no_base_lem xs e x i k)

    bases_told : kept (stands slices t) slices ≡ cond (before t (seen xs).end) (alone (last_base xs)) []
    bases_told = go (last_base xs) refl
      where
        go : (v : Option Slice) → last_base xs ≡ v → kept (stands slices t) slices ≡ cond (before t (seen xs).end) (alone v) []
        go nobody e =
            kept_none (stands slices t) slices (none_stands e)
            ∙ pick_ind (λ l. [] ≡ l) (before t (seen xs).end) (λ _. refl) (λ _. refl)
        go (some b) e =
            rw (seen_base xs b e).1
            (pick_ind (λ l. kept (stands slices t) slices ≡ l) (before t b.period.end)
            (λ y. kept_alone (stands slices t) slices up b (last_in b e).0 (last_stands b e ∙ y) (stands_last b e))
            (λ n. kept_none (stands slices t) slices
            (λ x m. never (stands slices t x)
            (λ y. contrary y (ap (stands slices t) (stands_last b e x m y) ∙ last_stands b e ∙ n)))))

  -- ---- how many have opened
  openings_none : (seen xs).openings ≡ 0 → (first_open xs ≡ nobody) × (kept (opens t) slices ≡ [])
  openings_none e =
      let (f, far) = none_opens xs e in
      (f, kept_none (opens t) slices (λ x m. never (opens t x) (λ y. let (i, k) = opening_passed x m y in far x i k)))

  openings_one : (seen xs).openings ≡ 1 → (o : Slice) × (first_open xs ≡ some o) × (kept (opens t) slices ≡ o ∷ [])
  openings_one e =
      let (o, f, (i, k), alone) = one_opens xs e in (
        o,
        f,
        kept_alone (opens t) slices up o (passed.within o i).0 (passed_opening o i k)
            (λ x m y. let (j, l) = opening_passed x m y in alone x j l),
      )

  openings_more : 1 < (seen xs).openings → only opened nowhere (kept (opens t) slices) ≡ two
  openings_more h =
      let (a, b, (i, k), (j, l), c) = more_open xs passed.falling h in
      only_two opened nowhere (kept (opens t) slices) a b (among a i k) (among b j l) (behind_apart a b c)
    where
      among : (x : Slice) → In x xs → is_opening x ≡ true → In x (kept (opens t) slices)
      among x m k = (kept_in (opens t) slices x).1 ((passed.within x m).0, passed_opening x m k)

  -- ---- THE ANCHOR, where there are no two
  opened_told : ltb 1 (seen xs).openings ≡ false
      → only opened nowhere (kept (opens t) slices) ≡ cond (eqb (seen xs).openings 1) (by opened (first_open xs)) nowhere
  opened_told n =
      pick_ind (λ a. only opened nowhere (kept (opens t) slices) ≡ a) (eqb (seen xs).openings 1)
      (λ y. let (o, f, k) = openings_one (omega tests) in rw (f, k)) (λ k. rw (openings_none (omega tests)).1)

  anchor_told : tells_two (seen xs) t ≡ false → anchor t slices ≡ anchor_in xs t
  unfolding tells_two anchor
  anchor_told h =
      let (one, n) = or_neither (seen xs).two (not (before t (seen xs).end) && ltb 1 (seen xs).openings) h in
      rw (bases_told one)
      (by-test (before t (seen xs).end) (λ y. rw y (based_told y (last_base xs) refl)) (λ k. rw k (opened_told (rw k at n))))
    where
      based_told : before t (seen xs).end ≡ true → (v : Option Slice) → last_base xs ≡ v
          → only based (only opened nowhere (kept (opens t) slices)) (alone v) ≡ by based v
      based_told y nobody e = absurd (let z = (seen_none xs e).1 in omega (tests, before_true t (seen xs).end y))
      based_told y (some b) e = refl

  -- ---- THE PERMANENT STATE, where no two anchors meet
  pub state_told : tells_two (seen xs) t ≡ false → permanent_at t slices ≡ tells (seen xs) t
  state_told h = line_told slices up t xs passed (anchor_told h)

  -- ---- THE NEXT CHANGE INSTANT, from the next of the begins and the life ends
  module _ (low : Bounded slices) (h : tells_two (seen xs) t ≡ false) (next : Instant)
      (among : (next ≡ none) ⊎ (In next (change_instants slices) × (t.0 < next.0)))
      (begins : (x : Slice) → In x slices → is_counted x ≡ true → t.0 < x.period.begin.0 → next.0 ≤ x.period.begin.0)
      (lives : (b : Slice) → In b slices → counts baseline b ≡ true → t.0 < b.life.end.0 → next.0 ≤ b.life.end.0) where
    one : (seen xs).two ≡ false
    unfolding tells_two
    one = (or_neither (seen xs).two (not (before t (seen xs).end) && ltb 1 (seen xs).openings) h).0

    abbrev Ahead : Instant → Type 0
    Ahead x = (x ≡ none) ⊎ (In x (change_instants slices) × (t.0 < x.0))

    -- it is none or a change instant behind t
    end_ahead : before t (seen xs).end ≡ true → (v : Option Slice) → last_base xs ≡ v → Ahead (seen xs).end
    end_ahead y nobody e = absurd (let z = (seen_none xs e).1 in omega (tests, before_true t (seen xs).end y))
    end_ahead y (some b) e =
        let (i, c, h) = last_in one b e in
        let l = before_true t (seen xs).end y in
        let q = (seen_base xs b e).1 in
        ⊎_elim (λ n. inl (q ∙ n)) (λ m. inr (rw q m, l)) (end_changing slices b i c)

    told_ahead : Ahead (tells_next (seen xs) t next)
    unfolding tells_next
    told_ahead =
        pick_ind Ahead (before t (seen xs).end)
        (λ y. pick_ind Ahead (before next (seen xs).end) (λ _. among) (λ _. end_ahead y (last_base xs) refl)) (λ _. among)

    -- and no change instant behind t comes before it
    abbrev Most : Instant → Type 0
    Most m = (m.0 ≤ next.0) × (t.0 < (seen xs).end.0 → m.0 ≤ (seen xs).end.0)

    told_most : Most (tells_next (seen xs) t next)
    unfolding tells_next before
    told_most =
        pick_ind Most (before t (seen xs).end)
        (λ y. pick_ind Most (before next (seen xs).end) (λ k. (omega tests, λ l. omega tests))
        (λ k. (omega tests, λ l. omega tests)))
        (λ n. (omega tests, λ l. absurd (omega tests)))

    -- an end behind t is that of the BASELINE that began last, or of one that begins behind t
    end_behind : (x : Slice) → In x slices → counts baseline x ≡ true → t.0 < x.period.end.0
        → (x.period.end.0 ≡ no_instant → ⊥) → ((seen xs).end ≡ x.period.end) ⊎ (next.0 ≤ x.period.end.0)
    unfolding is_counted at_most
    end_behind x m c l g =
        by-test (at_most x.period.begin t) (λ h. inl (has h (last_base xs) refl))
        (λ n. inr (omega (tests, begins x m (rw c) (omega tests), span x m c)))
      where
        has : at_most x.period.begin t ≡ true → (v : Option Slice) → last_base xs ≡ v → (seen xs).end ≡ x.period.end
        has h nobody e = let (i, k) = base_passed x m c h in absurd (no_base_lem xs e x i k)
        has h (some b) e =
            ⊎_elim (λ p. (seen_base xs b e).1 ∙ ap (λ z. z.period.end) (sym p))
            (λ (_, o). absurd (⊎_elim g (λ k. omega (tests, (last_in one b e).2)) o)) (others one b e x m c h)

    -- a change behind t
    module _ (x : Instant) (l : t.0 < x.0) (g : is_none x ≡ false) (s : Slice) (m : In s slices) where
      abbrev Reason : Type 0
      Reason = ((seen xs).end ≡ x) ⊎ (next.0 ≤ x.0)

      begin_reason : is_counted s ≡ true → x ≡ s.period.begin → Reason
      begin_reason c e = let n = ap (λ i. i.0) e in inr (omega (tests, n, begins s m c (omega tests)))

      base_reason : counts baseline s ≡ true → In x (s.period.begin ∷ s.period.end ∷ s.life.end ∷ []) → Reason
      unfolding is_counted
      base_reason c (inl e) = begin_reason (rw c) e
      base_reason c (inr (inl e)) =
          let n = ap (λ i. i.0) e in
          ⊎_elim (λ p. inl (p ∙ sym e)) (λ p. inr (omega tests))
          (end_behind s m c (omega tests) (λ k. none_false x g (n ∙ k)))
      base_reason c (inr (inr (inr x4))) = elim x4 [ ]
      base_reason c (inr (inr (inl e))) = let n = ap (λ i. i.0) e in inr (omega (tests, n, lives s m c (omega tests)))

      reason : In x (changes_by s) → Reason
      unfolding changes_by is_counted
      reason =
          pick_ind (λ k. In x k → Reason) (counts baseline s) base_reason
          (λ _. pick_ind (λ k. In x k → Reason) (counts permdelta s)
          (λ c. ⊎_elim (begin_reason (rw c (or-true (counts baseline s)))) (λ k. absurd k)) (λ _ k. absurd k))

    told_least : (x : Instant) → In x (change_instants slices) → t.0 < x.0 → (tells_next (seen xs) t next).0 ≤ x.0
    told_least x i l =
        let ((s, m, k), g) = changes_from slices x i in
        let (p, q) = told_most in
        ⊎_elim (λ e. let n = ap (λ i. i.0) e in omega (tests, q (omega tests))) (λ e. omega tests)
        (reason x l (not-true (is_none x) g) s m k)

    abbrev ahead : Instant
    ahead = next_of (later slices (just_after t))

    told_below : (tells_next (seen xs) t next).0 ≤ ahead.0
    told_below =
        ⊎_elim (λ e. let k = ap (λ i. i.0) e in
        ⊎_elim (λ f. let j = ap (λ i. i.0) f in omega tests)
        (λ (i, l). omega (tests, changes_below slices low (tells_next (seen xs) t next) i)) told_ahead)
        (λ (i, l). told_least ahead i (omega tests)) (later_next slices (just_after t))

    told_above : ahead.0 ≤ (tells_next (seen xs) t next).0
    told_above =
        ⊎_elim (λ f. let j = ap (λ i. i.0) f in omega (tests, walk_below slices (just_after t) low))
        (λ (i, l). later_least slices (just_after t) (tells_next (seen xs) t next) i (omega tests)) told_ahead

    pub next_told : tells_next (seen xs) t next ≡ next_of (later slices (just_after t))
    next_told = instant_of_lem (tells_next (seen xs) t next) ahead (omega (tests, told_below, told_above))

  -- ---- TWO ANCHORS
  anchor_two : (u : Instant) → In u (change_instants slices) → anchor u slices ≡ two → two_anchors slices ≡ true
  unfolding two_anchors permanent_at
  anchor_two u m e =
      let refused : Instant → Bool = λ v. has_two (permanent_at v slices) in
      by-test (any refused (change_instants slices)) (λ y. y)
      (λ n. contrary (ap (λ (a : Anchor). has_two (standing_from u slices a)) e) (any_none refused (change_instants slices) n u m))

  -- both of two that met hold at the begin of the later one
  module _ (w : Met xs) where
    abbrev meeting : Instant
    meeting = w.joins.period.begin

    joins_in : In w.joins slices × (counts baseline w.joins ≡ true)
    joins_in = let (m, k) = w.joins_passed in ((passed.within w.joins m).0, passed_base w.joins m k)

    held_in : In w.held slices × (counts baseline w.held ≡ true)
    held_in = let (m, k) = w.held_passed in ((passed.within w.held m).0, passed_base w.held m k)

    meeting_last : LastBegun meeting slices meeting
    unfolding begun_by at_most
    meeting_last = record {
      one = let (i, c) = joins_in in let h : at_most meeting meeting ≡ true = omega tests in inr (w.joins, i, rw (c, h), refl);
      most = λ s i y. omega (tests, (and_both (counts baseline s) (at_most s.period.begin meeting) y).1);
    }

    meeting_stands : (x : Slice) → In x slices → counts baseline x ≡ true → x.period.begin.0 ≤ meeting.0
        → meets x.period.begin x.period.end meeting ≡ true → stands slices meeting x ≡ true
    unfolding meets same_instant before at_most
    meeting_stands x m c l h =
        stands_begun slices meeting meeting meeting_last x m c (omega tests)
        ∙ ⊎_elim
        (λ (q : same_instant x.period.begin meeting ≡ true).
        let p : before meeting x.period.end ≡ true = omega (tests, span x m c) in rw (p, q) (or-true (given x.period.end)))
        (λ q. let (g, p) = and_both (given x.period.end) (before meeting x.period.end) q in rw (p, g))
        (or_either (same_instant x.period.begin meeting) (given x.period.end && before meeting x.period.end) h)

    joins_stands : stands slices meeting w.joins ≡ true
    unfolding meets same_instant
    joins_stands =
        let (i, c) = joins_in in
        let e : same_instant meeting meeting ≡ true = omega tests in
        meeting_stands w.joins i c (omega tests) (rw e)

    held_stands : stands slices meeting w.held ≡ true
    held_stands =
        let (i, c) = held_in in
        meeting_stands w.held i c (behind_begin w.joins w.held w.behind) w.meet

    met_two : two_anchors slices ≡ true
    unfolding anchor is_none
    met_two =
        let (i, c) = joins_in in
        let l = span w.joins i c in
        let n : is_none meeting ≡ false = omega tests in
        anchor_two meeting (changing_given slices meeting (begin_changing slices w.joins i c) (ap not n))
        (only_two based (only opened nowhere (kept (opens meeting) slices)) (kept (stands slices meeting) slices)
        w.joins w.held
        ((kept_in (stands slices meeting) slices w.joins).1 (i, joins_stands))
        ((kept_in (stands slices meeting) slices w.held).1 (held_in.0, held_stands))
        (behind_apart w.joins w.held w.behind))

  pub two_told : In t (change_instants slices) → tells_two (seen xs) t ≡ true → two_anchors slices ≡ true
  unfolding tells_two anchor
  two_told m h =
      by-test (seen xs).two (λ y. met_two (met xs passed.falling begin_low y))
      (λ n. let (p, q) = and_both (not (before t (seen xs).end)) (ltb 1 (seen xs).openings) (rw n at h) in
      let k = not-true (before t (seen xs).end) p in
      anchor_two t m (rw (bases_told n) (rw k (openings_more (omega tests)))))
    where
      begin_low : (x : Slice) → In x xs → is_base x ≡ true → x.period.begin.0 < no_instant
      begin_low x m k = omega (tests, span x (passed.within x m).0 (passed_base x m k))
