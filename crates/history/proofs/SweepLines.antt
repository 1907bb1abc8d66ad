-- The two lines that a sweep carries: what the BASELINE that began last and the changes behind its begin have made by an instant,
-- and what the first opening PERMDELTA and those behind it have; and the permanent state, read off them. Assumes nothing.
use mathlib.Core.Path.{◌≡◌, refl, sym, ap, ◌∙◌, subst}
use mathlib.Core.List.{List, [], ◌∷◌, ◌++◌}
use mathlib.Core.Bool.{Bool, true, false, cond, not, ◌&&◌, and-false, or-true}
use mathlib.Core.Logic.{inl, inr, ⊎_elim, ◌↔◌}
use mathlib.Core.Option.{Option, none as nobody, some}
use lib.Dec.{eqb, ltb}
use borrow.Author.Tests.{not-true}
use Rattle.laws.specs.Lists.{kept}
use Rattle.laws.specs.Orders.{lex_less}
use Rattle.laws.specs.Keyed.{In, Rising, Consistent, Fresh}
use Rattle.laws.proofs.Tests.{tests, pick_ind, by-test, contrary, and_both, or_either}
use Rattle.laws.proofs.Lists.{kept_in}
use Rattle.laws.proofs.Places.{number_order, less_self, less_asym}
use Rattle.laws.proofs.Fresh.{sorted_rising, sorted_within, sorted_key, fresh_unique}
use Rattle.numbers.specs.Numbers.{given, before, at_most, same_instant}
use Rattle.numbers.specs.declared.Instant.{Instant}
use Rattle.slice.specs.Record.{baseline, permdelta, key_less, same_key, Slice}
use Rattle.history.specs.Counted.{counts, slice_key}
use Rattle.history.specs.Anchor.{Anchor, based, opened, nowhere, anchor}
use Rattle.history.specs.State.{State, started, applied, applied_all}
use Rattle.history.specs.Permanent.{turn_of, turn_less, same_turn, after, follows, following, unless_withdrawn, reached}
use Rattle.history.specs.Permanent.{standing_from, permanent_at}
use Rattle.history.specs.Sweep.{begun, changed, seen, last_base, or_opens, first_open, tells, is_counted, comes_behind}
use Rattle.history.specs.Sweep.{Falling, Passed}
use Rattle.history.proofs.Orders.{turn_order, counts_kind, counted_one}
use Rattle.history.proofs.Selection.{append_in}

-- ---- one slice behind others
applied_last : (ds : List Slice) (d : Slice) (s : State) → applied_all s (ds ++ (d ∷ [])) ≡ applied (applied_all s ds) d
applied_last [] d s = refl
applied_last (e ∷ ds) d s = applied_last ds d (applied s e)

rising-last : (l : List Slice) (z : Slice) → Rising turn_of turn_less same_turn l
    → ((x : Slice) → In x l → turn_less (turn_of x) (turn_of z) ≡ true)
    → Rising turn_of turn_less same_turn (l ++ (z ∷ []))
rising-last [] z up h = (λ y m. absurd m, tt)
rising-last (x ∷ l) z (low, up) h = (
  λ y m. ⊎_elim (low y) (⊎_elim (λ e. rw e (h x (inl refl))) (λ m. absurd m)) ((append_in l (z ∷ []) y).0 m),
  rising-last l z up (λ y m. h y (inr m)),
)

-- ---- those of some slices, the latest first, that come after an anchor: the earliest first
abbrev trails : Anchor → Slice → Bool
trails a x = not (eqb x.kind baseline) && after a x

abbrev behind : Anchor → List Slice → List Slice
behind a [] = []
behind a (x ∷ xs) = cond (trails a x) (behind a xs ++ (x ∷ [])) (behind a xs)

behind_in : (a : Anchor) (xs : List Slice) (d : Slice) → In d (behind a xs) ↔ (In d xs × (trails a d ≡ true))
behind_in a [] d = (λ m. absurd m, λ m. m.0)
behind_in a (x ∷ xs) d =
    pick_ind (λ l. In d l ↔ (In d (x ∷ xs) × (trails a d ≡ true))) (trails a x)
    (λ t. (
      λ m. ⊎_elim (λ n. let (i, y) = (behind_in a xs d).0 n in (inr i, y))
          (⊎_elim (λ e. (inl e, ap (trails a) e ∙ t)) (λ n. absurd n)) ((append_in (behind a xs) (x ∷ []) d).0 m),
      λ (m, y). (append_in (behind a xs) (x ∷ []) d).1 (⊎_elim (λ e. inr (inl e)) (λ n. inl ((behind_in a xs d).1 (n, y))) m),
    ))
    (λ f. (
      λ m. let (i, y) = (behind_in a xs d).0 m in (inr i, y),
      λ (m, y). ⊎_elim (λ e. contrary y (ap (trails a) e ∙ f)) (λ n. (behind_in a xs d).1 (n, y)) m,
    ))

-- none where none does
behind_none : (a : Anchor) (xs : List Slice) → ((x : Slice) → In x xs → trails a x ≡ false) → behind a xs ≡ []
behind_none a [] h = refl
behind_none a (x ∷ xs) h = rw (h x (inl refl)) (behind_none a xs (λ y m. h y (inr m)))

-- ---- what is counted and no BASELINE is a PERMDELTA
delta : (x : Slice) → is_counted x ≡ true → eqb x.kind baseline ≡ false → counts permdelta x ≡ true
unfolding is_counted
delta x c n =
    ⊎_elim (λ y. absurd (omega (tests, counts_kind baseline x y))) (λ y. y)
    (or_either (counts baseline x) (counts permdelta x) c)

-- ---- what comes behind
-- it begins no earlier
no_earlier : (x y : Slice) → comes_behind x y ≡ true → before x.period.begin y.period.begin ≡ false
unfolding comes_behind lex_less before same_instant
no_earlier x y h =
    let m = y.period.begin.0 in
    let n = x.period.begin.0 in
    ⊎_elim (λ p. omega tests) (λ p. let (q, _) = and_both (eqb m n) (key_less (slice_key y) (slice_key x)) p in omega tests)
    (or_either (ltb m n) _ h)

-- of two that are counted and no BASELINEs it has the later turn
later_turn_lem : (x y : Slice) → x.kind ≡ permdelta → y.kind ≡ permdelta → comes_behind x y ≡ true
    → turn_less (turn_of y) (turn_of x) ≡ true
unfolding comes_behind turn_less key_less lex_less
later_turn_lem x y p q h = rw (p, q) at h

turns : (x y : Slice) → is_counted x ≡ true → is_counted y ≡ true → eqb x.kind baseline ≡ false
    → eqb y.kind baseline ≡ false → comes_behind x y ≡ true
    → turn_less (turn_of y) (turn_of x) ≡ true
turns x y c d n m = later_turn_lem x y (counts_kind permdelta x (delta x c n)) (counts_kind permdelta y (delta y d m))

-- so those that come after an anchor rise in their turn
abbrev AllCounted : List Slice → Type 0
AllCounted xs = (x : Slice) → In x xs → is_counted x ≡ true

behind_rising : (a : Anchor) (xs : List Slice) → Falling xs → AllCounted xs → Rising turn_of turn_less same_turn (behind a xs)
behind_rising a [] down all = tt
behind_rising a (x ∷ xs) (low, down) all =
    let up = behind_rising a xs down (λ y m. all y (inr m)) in
    pick_ind (Rising turn_of turn_less same_turn) (trails a x)
    (λ t. rising-last (behind a xs) x up (λ y n. let (m, u) = (behind_in a xs y).0 n in
    turns x y (all x (inl refl)) (all y (inr m)) (kind_of_lem x t) (kind_of_lem y u) (low y m)))
    (λ _. up)
  where
    kind_of_lem : (y : Slice) → trails a y ≡ true → eqb y.kind baseline ≡ false
    kind_of_lem y t = not-true (eqb y.kind baseline) (and_both (not (eqb y.kind baseline)) (after a y) t).0

-- a PERMDELTA that begins no earlier than a BASELINE goes to its line, unless it begins there
goes_on : (b x : Slice) (s : State) (l : List Slice) → before x.period.begin b.period.begin ≡ false
    → cond (same_instant b.period.begin x.period.begin) (applied_all s l) (applied (applied_all s l) x)
    ≡ applied_all s (cond (before b.period.begin x.period.begin) (l ++ (x ∷ [])) l)
unfolding same_instant before
goes_on b x s l n =
    by-test (eqb b.period.begin.0 x.period.begin.0)
    (λ e. let f : ltb b.period.begin.0 x.period.begin.0 ≡ false = omega tests in rw (e, f))
    (λ e. let f : ltb b.period.begin.0 x.period.begin.0 ≡ true = omega tests in rw (e, f) (sym (applied_last l x s)))

-- ---- what the line of the BASELINE that began last has made, by who that is
abbrev BaseMade : List Slice → Option Slice → Type 0
BaseMade xs nobody = (seen xs).end.0 ≡ 0
BaseMade xs (some b) =
    In b xs × ((seen xs).begin ≡ b.period.begin) × ((seen xs).base ≡ applied_all (started b) (behind (based b) xs))

base_made : (xs : List Slice) → Falling xs → BaseMade xs (last_base xs)
unfolding begun changed
base_made [] down = refl
base_made (x ∷ xs) (low, down) =
    pick_ind (BaseMade (x ∷ xs)) (eqb x.kind baseline) begins (λ n. changes n (last_base xs) (base_made xs down))
  where
    begins : eqb x.kind baseline ≡ true → BaseMade (x ∷ xs) (some x)
    begins y =
        rw (y, behind_none (based x) xs (λ z m. rw (no_earlier x z (low z m)) (and-false (not (eqb z.kind baseline)))))
        (inl refl, refl, refl)

    changes : eqb x.kind baseline ≡ false → (o : Option Slice) → BaseMade xs o → BaseMade (x ∷ xs) o
    changes n nobody h = rw n h
    changes n (some b) (m, e, h) =
        rw (n, e, h) (inr m, refl, goes_on b x (started b) (behind (based b) xs) (no_earlier x b (low b m)))

-- ---- and that of the first opening PERMDELTA
abbrev LineMade : List Slice → Option Slice → Type 0
LineMade xs nobody = (seen xs).openings ≡ 0
LineMade xs (some o) =
    In o xs × (eqb o.kind baseline ≡ false) × (eqb (seen xs).openings 0 ≡ false)
    × ((seen xs).line ≡ applied_all (started o) (behind (opened o) xs))

line_made : (xs : List Slice) → Falling xs → AllCounted xs → LineMade xs (first_open xs)
unfolding begun changed
line_made [] down all = refl
line_made (x ∷ xs) (low, down) all = go (first_open xs) (line_made xs down (λ y m. all y (inr m)))
  where
    -- it is behind each PERMDELTA of the rest
    over : eqb x.kind baseline ≡ false → (y : Slice) → In y xs → eqb y.kind baseline ≡ false
        → turn_less (turn_of y) (turn_of x) ≡ true
    over n y m k = turns x y (all x (inl refl)) (all y (inr m)) n k (low y m)

    opens : eqb x.kind baseline ≡ false → behind (opened x) xs ≡ []
    opens n = behind_none (opened x) xs (λ y m. by-test (eqb y.kind baseline) (λ b. rw b)
        (λ f. rw (f, less_asym turn_less same_turn turn_order (turn_of y) (turn_of x) (over n y m f))))

    go : (o : Option Slice) → LineMade xs o → LineMade (x ∷ xs) (or_opens o x)
    go nobody h =
        by-test (eqb x.kind baseline) (λ y. rw y (rw y h))
        (λ n. by-test (given x.life.begin)
        (λ g. rw (n, g) (rw (n, g, h, less_self turn_less same_turn turn_order (turn_of x), opens n) (inl refl, refl, refl, refl)))
        (λ g. rw (n, g) (rw (n, g) h)))
    go (some o) (m, k, w, h) =
        by-test (eqb x.kind baseline) (λ y. rw y (inr m, k, w, h))
        (λ n. rw (n, w, h, over n o m k) (
          inr m,
          k,
          pick_ind (λ i. eqb i 0 ≡ false) (given x.life.begin) (λ _. omega tests) (λ _. w),
          sym (applied_last (behind (opened o) xs) x (started o)),
        ))

-- the slice of an anchor, where there is one
abbrev pub by : (Slice → Anchor) → Option Slice → Anchor
by at (some x) = at x
by at nobody = nowhere

module _ (slices : List Slice) (up : Rising slice_key key_less same_key slices) (t : Instant) (xs : List Slice)
    (passed : Passed slices t xs) where
  counted : AllCounted xs
  counted x m = (passed.within x m).1

  -- ---- those behind an anchor are those that follow it
  module _ (a : Anchor) where
    abbrev Follower : Slice → Type 0
    Follower d = In d (kept (follows t a) slices)

    -- one that follows is a counted PERMDELTA that has begun and comes after
    followed : (d : Slice) → Follower d
        → In d slices × (counts permdelta d ≡ true) × (at_most d.period.begin t ≡ true) × (after a d ≡ true)
    unfolding follows
    followed d m =
        let (i, y) = (kept_in (follows t a) slices d).0 m in
        let (c, z) = and_both (counts permdelta d) (at_most d.period.begin t && after a d) y in
        let (p, l) = and_both (at_most d.period.begin t) (after a d) z in
        (i, c, p, l)

    agree : Consistent turn_of turn_less same_turn (λ d. 0) ltb Follower
    agree x y m n e _ =
        let (i, c, _, _) = followed x m in
        let (j, d, _, _) = followed y n in
        counted_one permdelta slices up x y i j c d (ap (λ k. k.sequence) e)

    by_turn : Fresh turn_of turn_less same_turn (λ d. 0) ltb Follower (following t slices a)
    unfolding following
    by_turn = record {
      rising = sorted_rising turn_of turn_less same_turn turn_order (kept (follows t a) slices);
      within = sorted_within turn_of turn_less same_turn turn_order (kept (follows t a) slices);
      covers =
          λ d m. let (x, n, e) = sorted_key turn_of turn_less same_turn turn_order (kept (follows t a) slices) d m in (x, n, e, refl);
    }

    as_passed : Fresh turn_of turn_less same_turn (λ d. 0) ltb Follower (behind a xs)
    unfolding follows is_counted
    as_passed = record {
      rising = behind_rising a xs passed.falling counted;
      within = λ d m. let (n, y) = (behind_in a xs d).0 m in
          let (k, l) = and_both (not (eqb d.kind baseline)) (after a d) y in
          let (i, c, p) = passed.within d n in
          (kept_in (follows t a) slices d).1 (i, rw (delta d c (not-true (eqb d.kind baseline) k), p, l));
      covers = λ d m. let (i, c, p, l) = followed d m in
          let n : eqb d.kind baseline ≡ false = omega (tests, counts_kind permdelta d c) in
          (d, (behind_in a xs d).1 (passed.covers d i (rw c (or-true (counts baseline d))) p, rw (n, l)), refl, refl);
    }

    behind_following : behind a xs ≡ following t slices a
    behind_following =
        fresh_unique turn_of turn_less same_turn turn_order (λ d. 0) ltb number_order Follower agree (behind a xs)
        (following t slices a) as_passed by_turn

  -- THE LINE OF THE BASELINE THAT BEGAN LAST
  base_line : (b : Slice) → last_base xs ≡ some b → (seen xs).base ≡ applied_all (started b) (following t slices (based b))
  base_line b e =
      (subst (BaseMade xs) e (base_made xs passed.falling)).2 ∙ ap (applied_all (started b)) (behind_following (based b))

  -- THE LINE OF THE FIRST OPENING PERMDELTA
  open_line : (o : Slice) → first_open xs ≡ some o → (seen xs).line ≡ applied_all (started o) (following t slices (opened o))
  open_line o e =
      (subst (LineMade xs) e (line_made xs passed.falling counted)).3 ∙ ap (applied_all (started o)) (behind_following (opened o))

  -- THE PERMANENT STATE, READ OFF THE LINES
  pub line_told : anchor t slices
      ≡ cond (before t (seen xs).end) (by based (last_base xs))
      (cond (eqb (seen xs).openings 1) (by opened (first_open xs)) nowhere)
      → permanent_at t slices ≡ tells (seen xs) t
  unfolding permanent_at tells reached before
  line_told h =
      ap (standing_from t slices) h
      ∙ by-test (ltb t.0 (seen xs).end.0)
      (λ y. rw y (told based (seen xs).base (last_base xs)
      (λ e. let z = subst (BaseMade xs) e (base_made xs passed.falling) in omega tests)
      (λ b e. ap (unless_withdrawn t) (sym (base_line b e)))))
      (λ n. rw n (by-test (eqb (seen xs).openings 1)
      (λ y. rw y (told opened (seen xs).line (first_open xs)
      (λ e. let z = subst (LineMade xs) e (line_made xs passed.falling counted) in omega tests)
      (λ o e. ap (unless_withdrawn t) (sym (open_line o e)))))
      (λ f. rw f)))
    where
      -- there is such a slice, and from it the state is s unless withdrawn
      told : (at : Slice → Anchor) (s : State) (o : Option Slice) → (o ≡ nobody → ⊥)
          → ((x : Slice) → o ≡ some x → standing_from t slices (at x) ≡ unless_withdrawn t s)
          → standing_from t slices (by at o) ≡ unless_withdrawn t s
      told at s nobody n l = absurd (n refl)
      told at s (some x) n l = l x refl
