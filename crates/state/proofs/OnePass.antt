-- What a survey settles: a tally tells which slices pass, the origin of a part is the slice that tells it last, and so the
-- standing that they give is the permanent state's. Assumes nothing.
use Prim.Native.Nat.{ℕ, zero, suc, ◌+◌, ◌≤◌, ◌<◌}
use mathlib.Core.Path.{◌≡◌, refl, sym, ap, ◌∙◌, fun_ext}
use mathlib.Core.List.{List, [], ◌∷◌}
use mathlib.Core.Bool.{Bool, true, false, cond, not, ◌&&◌, and_comm, or-true}
use mathlib.Core.Option.{Option, none, some}
use native.Mathlib.Numerals.{add-one}
use native.Mathlib.Omega.{arith}
use lib.Dec.{eqb, leb, ltb}
use lib.ListN.{length, get_or}
use borrow.Author.Tests.{le-leb, lt-ltb}
use Rattle.laws.specs.Lists.{kept}
use Rattle.laws.specs.Keyed.{Rising}
use Rattle.laws.proofs.Tests.{tests, pick_ind, by-test}
use Rattle.numbers.specs.Numbers.{given, before, at_most}
use Rattle.numbers.specs.declared.Instant.{Instant}
use Rattle.slice.specs.Record.{permdelta, record_size, key_less, same_key, Slice, view_of}
use Rattle.table.specs.Header.{count_of, stride_of, room_of, record_at}
use Rattle.history.specs.Counted.{counts, slice_key}
use Rattle.history.specs.Anchor.{stands, opens, Anchor, based, opened, nowhere, two, only, anchor}
use Rattle.history.specs.State.{State, started, applied_all}
use Rattle.history.specs.Permanent.{after, following, refuses, known, withdrawn, unless_withdrawn, reached, standing_from}
use Rattle.history.specs.Permanent.{permanent_at}
use Rattle.history.specs.Snapshot.{valid, passing}
use Rattle.history.specs.Source.{last_of}
use Rattle.history.specs.Parts.{tells, due, opens_due, Placed, latest_from, later_turn, latest_due, latest_valid}
use Rattle.history.proofs.Parts.{or_else, last_or, begin_in, end_in, line_end}
use Rattle.history.proofs.Latest.{slice_in, after_only, latest_placed, last_due, last_valid}
use Rattle.state.specs.Asking.{slices_of}
use Rattle.state.specs.Steps.{nothing, among, wanted, mark_of, mark_due, place_and_one, tally_from, since_of, Below, after_start}
use Rattle.state.specs.Steps.{slice_here, slice_no, origin_of, life_at, start_at, unless_ended, found_from, standing_of}
use Rattle.state.specs.declared.mention.Mark.{Mark}
use Rattle.state.specs.declared.anchor.Few.{Few}
use Rattle.state.specs.declared.anchor.Few.TheVariants.{Zero, One, More}
use Rattle.state.specs.declared.anchor.Start.{Start}
use Rattle.state.specs.Steps.{Standing}
use Rattle.std.specs.Prelude.{Ok, Err}
use Rattle.state.proofs.Slices.{slices_length, slice_at_lem}

-- ---- tallies
module _ (test : Slice → Bool) where
  -- what a tally from place i on says of those that pass
  abbrev Says : ℕ → List Slice → Few → Type 0
  Says i ds Zero = kept test ds ≡ []
  Says i ds (One k) = (j : ℕ) × (k ≡ i + j) × (j < length ds) × ((d : Slice) → kept test ds ≡ get_or ds j d ∷ [])
  Says i ds More = (x : Slice) × (y : Slice) × (xs : List Slice) × (kept test ds ≡ x ∷ y ∷ xs)

  says_past : (i : ℕ) (d : Slice) (ds : List Slice) → test d ≡ false → (few : Few) → Says (suc i) ds few → Says i (d ∷ ds) few
  says_past i d ds n Zero e = rw n e
  says_past i d ds n (One k) (j, e, h, f) = (suc j, omega arith, omega arith, λ x. rw n (f x))
  says_past i d ds n More (x, y, xs, e) = (x, y, xs, rw n e)

  tally_more : (i : ℕ) (ds : List Slice) → tally_from test i More ds ≡ More
  tally_more i [] = refl
  tally_more i (d ∷ ds) = by-test (test d) (λ y. rw y (tally_more (suc i) ds)) (λ n. rw n (tally_more (suc i) ds))

  -- behind the first that passes, those that come
  abbrev behind_one : ℕ → List Slice → Few
  behind_one k [] = One k
  behind_one k (x ∷ xs) = More

  tally_one : (i k : ℕ) (ds : List Slice) → tally_from test i (One k) ds ≡ behind_one k (kept test ds)
  tally_one i k [] = refl
  tally_one i k (d ∷ ds) = by-test (test d) (λ y. rw y (tally_more (suc i) ds)) (λ n. rw n (tally_one (suc i) k ds))

  says_first : (i : ℕ) (d : Slice) (ds : List Slice) → test d ≡ true → Says i (d ∷ ds) (behind_one i (kept test ds))
  says_first i d ds y = go (kept test ds) refl
    where
      go : (l : List Slice) → kept test ds ≡ l → Says i (d ∷ ds) (behind_one i l)
      go [] e = (0, omega arith, omega arith, λ x. rw (y, e))
      go (x ∷ xs) e = (d, x, xs, rw (y, e))

  tally_says : (i : ℕ) (ds : List Slice) → Says i ds (tally_from test i Zero ds)
  tally_says i [] = refl
  tally_says i (d ∷ ds) =
      by-test (test d) (λ y. rw (y, tally_one (suc i) i ds) (says_first i d ds y))
      (λ n. rw n (says_past i d ds n (tally_from test (suc i) Zero ds) (tally_says (suc i) ds)))

  module _ (p : List ℕ) where
    pub few_below : Below (count_of p) (tally_from test 0 Zero (slices_of p))
    few_below = go (tally_from test 0 Zero (slices_of p)) (tally_says 0 (slices_of p))
      where
        go : (few : Few) → Says 0 (slices_of p) few → Below (count_of p) few
        go Zero s = tt
        go (One k) (j, e, h, f) = omega (arith, slices_length p)
        go More s = tt

    module _ (few : Few) (is : few ≡ tally_from test 0 Zero (slices_of p)) where
      said : (v : Few) → few ≡ v → Says 0 (slices_of p) v
      said v e = rw (← e, is) (tally_says 0 (slices_of p))

      pub few_none : few ≡ Zero → kept test (slices_of p) ≡ []
      few_none = said Zero

      pub few_one : count_of p ≤ room_of (record_size (stride_of p)) p → (i : ℕ) → few ≡ One i
          → (kept test (slices_of p) ≡ slice_here p i ∷ []) × (i < count_of p)
      few_one roomy i e =
          let (j, q, h, f) = said (One i) e in
          let same : i ≡ j = omega arith in
          let low : i < count_of p = omega (arith, slices_length p) in (
            f (slice_here p i)
                ∙ ap (λ d. d ∷ [])
                (ap (λ k. get_or (slices_of p) k (slice_here p i)) (sym same) ∙ slice_at_lem p i (slice_here p i) low roomy),
            low,
          )

      pub few_more : few ≡ More → (at : Slice → Anchor) (otherwise : Anchor) → only at otherwise (kept test (slices_of p)) ≡ two
      few_more e at otherwise = let (x, y, xs, k) = said More e in rw k

-- ---- a table's slices by their places
module _ (p : List ℕ) where
  -- it tells the life times that the record gives
  pub begin_at : (k : ℕ) → (life_at (record_size (stride_of p)) p k).begin ≡ begin_in (slice_no p k)
  unfolding view_of
  begin_at zero = refl
  begin_at (suc i) = refl

  pub end_at : (k : ℕ) → (life_at (record_size (stride_of p)) p k).end ≡ end_in (slice_no p k)
  unfolding view_of
  end_at zero = refl
  end_at (suc i) = refl

  module _ (roomy : count_of p ≤ room_of (record_size (stride_of p)) p) where
    -- what a pass finds stands at its place
    module _ (later : Slice → Slice → Bool) (test : Slice → Bool) where
      found_here : (b : Placed) → latest_from later test none 0 (slices_of p) ≡ some b
          → (b.place < count_of p) × (b.slice ≡ slice_here p b.place)
      found_here b e =
          let (h, g, _) = latest_placed later test (slices_of p) b e in
          let low : b.place < count_of p = omega (arith, slices_length p) in
          (low, sym (g b.slice) ∙ slice_at_lem p b.place b.slice low roomy)

      place_known : place_and_one (latest_from later test none 0 (slices_of p)) ≤ count_of p
      place_known = go (latest_from later test none 0 (slices_of p)) refl
        where
          go : (o : Option Placed) → latest_from later test none 0 (slices_of p) ≡ o → place_and_one o ≤ count_of p
          go none f = omega arith
          go (some b) f = omega (arith, (found_here b f).0)

-- ---- the parts that are looked at
module _ (from to : ℕ) where
  pub among_in : (q : ℕ) → from ≤ q → q < to → among from to q ≡ true
  unfolding among
  among_in q h k = rw (le-leb from q h, lt-ltb q to k)

  pub wanted_in : (q : ℕ) → from ≤ q → q < to → wanted from to q ≡ true
  unfolding wanted
  wanted_in q h k = rw (among_in q h k)

  pub wanted_begin : wanted from to 8 ≡ true
  unfolding wanted among
  wanted_begin = or-true (leb from 8 && ltb 8 to)

  pub wanted_end : wanted from to 9 ≡ true
  unfolding wanted among
  wanted_end = or-true (leb from 9 && ltb 9 to)

-- ---- who tells a part last
abbrev pub anchor_by : Bool → Slice → Anchor
anchor_by true d = based d
anchor_by false d = opened d

-- what comes after an anchor is not before an instant
abbrev pub Since : Instant → Anchor → Type 0
Since since a = (d : Slice) → after a d ≡ true → at_most since d.period.begin ≡ true

-- from the record at a place
abbrev pub start_here : List ℕ → Bool → ℕ → Start
start_here p b i = start_at b i (record_at (record_size (stride_of p)) i p)

-- a mention comes after the start where its slice follows the anchor
after_start_lem : (p : List ℕ) (b : Bool) (i j : ℕ) (d : Slice)
    → after_start (start_here p b i) (mark_of j d) ≡ after (anchor_by b (slice_here p i)) d
unfolding after_start view_of
after_start_lem p true i j d = refl
after_start_lem p false i j d = refl

origin_due : (p : List ℕ) (b : Bool) (i j : ℕ) (told : Bool) (d : Slice)
    → origin_of (start_here p b i) told (mark_of j d) ≡ cond (after (anchor_by b (slice_here p i)) d) (suc j) (cond told (suc i) 0)
unfolding origin_of
origin_due p b i j told d = let z : eqb (j + 1) 0 ≡ false = omega tests in rw (z, after_start_lem p b i j d, add-one j)

own_slice : (p : List ℕ) (i : ℕ) (told : Bool) → slice_no p (cond told (suc i) 0) ≡ cond told (some (slice_here p i)) none
own_slice p i true = refl
own_slice p i false = refl

-- the place that a mark names
mark_place : (o : Option Placed) → (mark_due o).from ≡ place_and_one o
mark_place none = refl
mark_place (some b) = refl

-- an origin is a place and one
pub origin_known : (n : ℕ) (s : Start) (told : Bool) (m : Mark) → s.place < n → m.from ≤ n → origin_of s told m ≤ n
unfolding origin_of
origin_known n s told m h k =
    pick_ind (λ v. v ≤ n) (not (eqb m.from 0) && after_start s m) (λ _. k)
    (λ _. pick_ind (λ v. v ≤ n) told (λ _. omega arith) (λ _. omega arith))

module _ (since t : Instant) (p : List ℕ) (roomy : count_of p ≤ room_of (record_size (stride_of p)) p) where
  due_here : (q : ℕ) (b : Placed) → latest_due q since t (slices_of p) ≡ some b
      → (b.place < count_of p) × (b.slice ≡ slice_here p b.place)
  unfolding latest_due
  due_here q = found_here p roomy later_turn (λ d. due since t d && tells q d)

  -- a mark names a slice that is there, or none
  pub known_due : (q : ℕ) (m : Mark) → m ≡ mark_due (latest_due q since t (slices_of p)) → m.from ≤ count_of p
  unfolding latest_due
  known_due q m e =
      rw (ap (λ m. m.from) e ∙ mark_place (latest_due q since t (slices_of p)))
      (place_known p roomy later_turn (λ d. due since t d && tells q d))

  pub origin_most : (s : Start) (told : Bool) (q : ℕ) (m : Mark) → s.place < count_of p
      → m ≡ mark_due (latest_due q since t (slices_of p)) → origin_of s told m ≤ count_of p
  origin_most s told q m h e = origin_known (count_of p) s told m h (known_due q m e)

  pub origin_last : Rising slice_key key_less same_key (slices_of p) → (b : Bool) (i : ℕ) → Since since (anchor_by b (slice_here p i))
      → (q : ℕ) (m : Mark) → m ≡ mark_due (latest_due q since t (slices_of p))
      → slice_no p (origin_of (start_here p b i) (tells q (slice_here p i)) m) ≡ last_of (tells q) none
      (slice_here p i ∷ following t (slices_of p) (anchor_by b (slice_here p i)))
  unfolding origin_of
  origin_last up b i all q m e =
      ap (λ m. slice_no p (origin_of (start_here p b i) told m)) e ∙ go (latest_due q since t (slices_of p)) refl
      ∙ ap (λ o. or_else o own) (sym (last_due since t (slices_of p) up (anchor_by b a) all q))
      ∙ sym (last_or (tells q) own (following t (slices_of p) (anchor_by b a)))
    where
      a : Slice
      a = slice_here p i

      told : Bool
      told = tells q a

      own : Option Slice
      own = cond told (some a) none

      go : (o : Option Placed) → latest_due q since t (slices_of p) ≡ o
          → slice_no p (origin_of (start_here p b i) told (mark_due o)) ≡ or_else (slice_in (after_only (anchor_by b a) o)) own
      go none f = own_slice p i told
      go (some x) f =
          ap (slice_no p) (origin_due p b i x.place told x.slice)
          ∙ by-test (after (anchor_by b a) x.slice) (λ y. rw y (ap some (sym (due_here q x f).1)))
          (λ n. rw n (own_slice p i told))

module _ (t : Instant) (p : List ℕ) (roomy : count_of p ≤ room_of (record_size (stride_of p)) p) where
  valid_here : (q : ℕ) (b : Placed) → latest_valid q t (slices_of p) ≡ some b
      → (b.place < count_of p) × (b.slice ≡ slice_here p b.place)
  unfolding latest_valid
  valid_here q = found_here p roomy (λ a b. true) (λ d. valid t d && tells q d)

  -- the place that is found of those that are valid is that of one that is there, or none
  pub known_valid : (q k : ℕ) → k ≡ place_and_one (latest_valid q t (slices_of p)) → k ≤ count_of p
  unfolding latest_valid
  known_valid q k e = rw e (place_known p roomy (λ a b. true) (λ d. valid t d && tells q d))

  -- and of the last of them
  pub passing_last : Rising slice_key key_less same_key (slices_of p) → (q k : ℕ) → k ≡ place_and_one (latest_valid q t (slices_of p))
      → slice_no p k ≡ last_of (tells q) none (passing t (slices_of p))
  passing_last up q k e = ap (slice_no p) e ∙ go (latest_valid q t (slices_of p)) refl ∙ sym (last_valid t (slices_of p) up q)
    where
      go : (o : Option Placed) → latest_valid q t (slices_of p) ≡ o → slice_no p (place_and_one o) ≡ slice_in o
      go none f = refl
      go (some b) f = rw (add-one b.place) (ap some (sym (valid_here q b f).1))

-- ---- the standing
-- the state that starts from an anchor's slice
abbrev pub state_from : Instant → List ℕ → Bool → ℕ → State
state_from t p b i = applied_all (started (slice_here p i)) (following t (slices_of p) (anchor_by b (slice_here p i)))

-- openings, where no BASELINE holds
opens_due_lem : (t : Instant) (d : Slice) → opens_due (record { 0 = 0 }) t d ≡ opens t d
unfolding opens_due due opens tells at_most
opens_due_lem t d =
    let z : leb 0 d.period.begin.0 ≡ true = omega tests in
    rw z (regroup (counts permdelta d) (given d.life.begin) (leb d.period.begin.0 t.0))
  where
    regroup : (c g b : Bool) → ((c && b) && g) ≡ (c && (g && b))
    regroup false g b = refl
    regroup true g b = and_comm b g

opens_kept : (t : Instant) (slices : List Slice) → kept (opens t) slices ≡ kept (opens_due (record { 0 = 0 }) t) slices
opens_kept t slices = sym (ap (λ f. kept f slices) (fun_ext (opens_due_lem t)))

module _ (since t : Instant) (p : List ℕ) where
  -- the state is known, and starts there
  pub record Begun (s : Start) : Type 0 where
    pub place : s.place < count_of p
    pub is : s ≡ start_here p s.based s.place
    pub anchored : anchor t (slices_of p) ≡ anchor_by s.based (slice_here p s.place)
    pub state : permanent_at t (slices_of p) ≡ known (state_from t p s.based s.place)
    pub all : Since since (anchor_by s.based (slice_here p s.place))

  abbrev pub Settled : Standing → Type 0
  Settled (Ok s) = Begun s
  Settled (Err f) = permanent_at t (slices_of p) ≡ refuses f

module _ (t : Instant) (p : List ℕ) where
  abbrev holding : Slice → Bool
  holding = stands (slices_of p) t

  abbrev opening : Slice → Bool
  opening = opens_due (record { 0 = 0 }) t

  by_kept : (xs ys : List Slice) → kept holding (slices_of p) ≡ xs → kept (opens t) (slices_of p) ≡ ys
      → anchor t (slices_of p) ≡ only based (only opened nowhere ys) xs
  unfolding anchor
  by_kept xs ys e f i = only based (only opened nowhere (f i)) (e i)

  by_anchor : (a : Anchor) → anchor t (slices_of p) ≡ a → permanent_at t (slices_of p) ≡ standing_from t (slices_of p) a
  unfolding permanent_at
  by_anchor a e = ap (standing_from t (slices_of p)) e

  reached_by : (b : Bool) (d : Slice)
      → standing_from t (slices_of p) (anchor_by b d) ≡ unless_withdrawn t
      (applied_all (started d) (following t (slices_of p) (anchor_by b d)))
  unfolding reached
  reached_by true d = refl
  reached_by false d = refl

  -- what comes after a BASELINE is not before its begin, and nothing is before the first instant
  since_base : (i : ℕ) → Since (since_of p (One i)) (based (slice_here p i))
  unfolding before at_most view_of
  since_base i d y = omega tests

  since_first : (a : Anchor) → Since (record { 0 = 0 }) a
  unfolding at_most
  since_first a d y = omega tests

  module _ (roomy : count_of p ≤ room_of (record_size (stride_of p)) p) (up : Rising slice_key key_less same_key (slices_of p)) where
    found_settled : (since : Instant) (m : Mark) → m ≡ mark_due (latest_due 9 since t (slices_of p)) → (b : Bool) (i : ℕ)
        → i < count_of p
        → Since since (anchor_by b (slice_here p i)) → anchor t (slices_of p) ≡ anchor_by b (slice_here p i)
        → Settled since t p (found_from t p m b i)
    unfolding found_from unless_ended unless_withdrawn withdrawn
    found_settled since m e b i h all a =
        let s = start_here p b i in
        let u = state_from t p b i in
        let end : Instant = (life_at (record_size (stride_of p)) p (origin_of s (tells 9 (slice_here p i)) m)).end in
        let same : end ≡ u.life.end =
        end_at p (origin_of s (tells 9 (slice_here p i)) m) ∙ ap end_in (origin_last since t p roomy up b i all 9 m e)
        ∙ sym (line_end (slice_here p i) (following t (slices_of p) (anchor_by b (slice_here p i)))) in
        let whole = by_anchor (anchor_by b (slice_here p i)) a ∙ reached_by b (slice_here p i) in
        let ended : Bool = given end && at_most end t in
        let tested : ended ≡ (given u.life.end && at_most u.life.end t) = ap (λ x. given x && at_most x t) same in
        pick_ind (Settled since t p) ended
        (λ y. whole ∙ rw (← tested, y))
        (λ n. record { place = h; is = refl; anchored = a; state = whole ∙ rw (← tested, n); all = all })

    pub settled : (bases openings : Few) (ms : List Mark) → bases ≡ tally_from holding 0 Zero (slices_of p)
        → openings ≡ tally_from (opens_due (since_of p bases) t) 0 Zero (slices_of p)
        → get_or ms 9 nothing ≡ mark_due (latest_due 9 (since_of p bases) t (slices_of p))
        → Settled (since_of p bases) t p (standing_of t p bases openings ms)
    settled Zero Zero ms f g e =
        by_anchor nowhere
        (by_kept [] [] (few_none holding p Zero f refl) (opens_kept t (slices_of p) ∙ few_none opening p Zero g refl))
    settled Zero (One i) ms f g e =
        let (k, h) = few_one opening p (One i) g roomy i refl in
        found_settled (record { 0 = 0 }) (get_or ms 9 nothing) e false i h (since_first (opened (slice_here p i)))
        (by_kept [] (slice_here p i ∷ []) (few_none holding p Zero f refl) (opens_kept t (slices_of p) ∙ k))
    settled Zero More ms f g e =
        by_anchor two
        (by_kept [] (kept opening (slices_of p)) (few_none holding p Zero f refl) (opens_kept t (slices_of p))
        ∙ few_more opening p More g refl opened nowhere)
    settled (One i) openings ms f g e =
        let (k, h) = few_one holding p (One i) f roomy i refl in
        found_settled (since_of p (One i)) (get_or ms 9 nothing) e true i h (since_base i)
        (by_kept (slice_here p i ∷ []) (kept (opens t) (slices_of p)) k refl)
    settled More openings ms f g e =
        by_anchor two
        (by_kept (kept holding (slices_of p)) (kept (opens t) (slices_of p)) refl refl
        ∙ few_more holding p More f refl based (only opened nowhere (kept (opens t) (slices_of p))))
