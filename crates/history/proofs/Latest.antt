-- One pass over the slices as they stand finds the slice that stands last where they are put in order. Of PERMDELTAs both are the
-- latest, and there is one; TEMPDELTAs are in order as they stand. Assumes nothing.
use Prim.Native.Nat.{ℕ, suc, ◌+◌, ◌<◌}
use mathlib.Core.Path.{◌≡◌, refl, sym, ap, ◌∙◌, subst, fun_ext}
use mathlib.Core.List.{List, [], ◌∷◌}
use mathlib.Core.Bool.{Bool, true, false, cond, ◌&&◌, and_comm}
use mathlib.Core.Logic.{◌⊎◌, inl, inr, ⊎_elim}
use mathlib.Core.Option.{Option, none, some, none-ne-some, some-injective}
use native.Mathlib.Omega.{arith}
use lib.ListN.{length, get_or}
use lib.Dec.{ltb}
use borrow.Author.Tests.{lt-ltb}
use Rattle.laws.specs.Lists.{kept}
use Rattle.laws.specs.Keyed.{In, Rising, sorted}
use Rattle.laws.proofs.Tests.{tests, pick_ind, by-test, contrary, never, and_both}
use Rattle.laws.proofs.Lists.{get_or_in, kept_in}
use Rattle.laws.proofs.Orders.{pair_less, lex_true, true_lex}
use Rattle.laws.proofs.Places.{KeyOrder, less_asym, less_on}
use Rattle.laws.proofs.Fresh.{sorted_rising, sorted_within, sorted_key, sorted_same}
use Rattle.numbers.specs.Numbers.{before, at_most, same_instant, lower_sequence, same_sequence}
use Rattle.numbers.specs.declared.Instant.{Instant}
use Rattle.numbers.proofs.Orders.{sequence_order}
use Rattle.slice.specs.Record.{permdelta, tempdelta, key_less, same_key, Slice}
use Rattle.history.specs.Counted.{counts, holds, slice_key}
use Rattle.history.specs.Anchor.{Anchor, based, opened, nowhere, two}
use Rattle.history.specs.Permanent.{turn_of, turn_less, same_turn, after, follows, following}
use Rattle.history.specs.Snapshot.{valid, sequence_in, passing}
use Rattle.history.specs.Source.{last_of}
use Rattle.history.specs.Parts.{tells, due, Placed, at, latest_with, latest_from, later_turn, latest_due, latest_valid}
use Rattle.history.proofs.Orders.{turn_order, counts_kind, counted_one}
use Rattle.history.proofs.Parts.{last_in}

abbrev pub slice_in : Option Placed → Option Slice
slice_in none = none
slice_in (some b) = some b.slice

-- what the pass found, where it follows the anchor
abbrev pub after_only : Anchor → Option Placed → Option Placed
after_only a none = none
after_only a (some b) = cond (after a b.slice) (some b) none

-- ---- where the pass finds it
module _ (later : Slice → Slice → Bool) (test : Slice → Bool) where
  -- at a place of some slices, counted from i on
  abbrev Found : ℕ → List Slice → Placed → Type 0
  Found i ds b = (k : ℕ) × (b.place ≡ i + k) × (k < length ds) × ((d : Slice) → get_or ds k d ≡ b.slice) × (test b.slice ≡ true)

  found_from : (v : Option Placed) (i : ℕ) (ds : List Slice) (b : Placed) → latest_from later test v i ds ≡ some b
      → (v ≡ some b) ⊎ Found i ds b
  found_from v i [] b e = inl e
  found_from v i (d ∷ ds) b e =
      ⊎_elim (here v) (λ (k, p, l, g, t). inr (suc k, omega arith, omega arith, g, t))
      (found_from (latest_with later test v i d) (suc i) ds b e)
    where
      own : test d ≡ true → some (at i d) ≡ some b → Found i (d ∷ ds) b
      own t q =
          let e = some-injective (at i d) b q in
          (0, omega (arith, ap (λ p. p.place) e), omega arith, λ _. ap (λ p. p.slice) e, ap (λ p. test p.slice) (sym e) ∙ t)

      here : (v : Option Placed) → latest_with later test v i d ≡ some b → (v ≡ some b) ⊎ Found i (d ∷ ds) b
      here none = pick_ind (λ w. w ≡ some b → (none ≡ some b) ⊎ Found i (d ∷ ds) b) (test d) (λ t q. inr (own t q)) (λ _. inl)
      here (some x) =
          pick_ind (λ w. w ≡ some b → (some x ≡ some b) ⊎ Found i (d ∷ ds) b) (test d && later x.slice d)
          (λ t q. inr (own (and_both (test d) (later x.slice d) t).0 q)) (λ _. inl)

  pub latest_placed : (slices : List Slice) (b : Placed) → latest_from later test none 0 slices ≡ some b
      → (b.place < length slices) × ((d : Slice) → get_or slices b.place d ≡ b.slice) × (test b.slice ≡ true)
  latest_placed slices b e = ⊎_elim (λ q. absurd (none-ne-some b q)) go (found_from none 0 slices b e)
    where
      go : Found 0 slices b
          → (b.place < length slices) × ((d : Slice) → get_or slices b.place d ≡ b.slice) × (test b.slice ≡ true)
      go (k, p, l, g, t) = let q : b.place ≡ k = omega arith in (omega arith, λ d. rw q (g d), t)

-- ---- what it is to be the latest
module _ {K : Type 0} (key : Slice → K) (less same : K → K → Bool) (o : KeyOrder less same) where
  -- there is a slice, and d does not come behind it
  abbrev Covers : Option Slice → Slice → Type 0
  Covers none d = ⊥
  Covers (some b) d = less (key b) (key d) ≡ false

  self : (d : Slice) → Covers (some d) d
  self d = never (less (key d) (key d)) (o.irrefl (key d))

  -- the latest of the slices that pass a test
  record Latest (test : Slice → Bool) (slices : List Slice) (v : Option Slice) : Type 0 where
    within : (b : Slice) → v ≡ some b → In b slices × (test b ≡ true)
    covers : (d : Slice) → In d slices → test d ≡ true → Covers v d

  -- the key tells the slices that pass apart
  abbrev Apart : (Slice → Bool) → List Slice → Type 0
  Apart test slices = (a b : Slice) → In a slices → In b slices → test a ≡ true → test b ≡ true → key a ≡ key b → a ≡ b

  latest_one : (test : Slice → Bool) (slices : List Slice) → Apart test slices → (v w : Option Slice) → Latest test slices v
      → Latest test slices w → v ≡ w
  latest_one test slices one none none f g = refl
  latest_one test slices one none (some b) f g = let p = g.within b refl in absurd (f.covers b p.0 p.1)
  latest_one test slices one (some a) none f g = let p = f.within a refl in absurd (g.covers a p.0 p.1)
  latest_one test slices one (some a) (some b) f g =
      let (m, t) = f.within a refl in
      let (n, u) = g.within b refl in
      ap some (one a b m n t u (o.total (key a) (key b) (f.covers b n u) (g.covers a m t)))

  -- ---- the last in rising order
  last_stays : (test : Slice → Bool) (v : Option Slice) (l : List Slice) (d : Slice)
      → ((x : Slice) → In x l → less (key x) (key d) ≡ false) → Covers v d
      → Covers (last_of test v l) d
  last_stays test v [] d low c = c
  last_stays test v (x ∷ l) d low c =
      last_stays test (cond (test x) (some x) v) l d (λ y m. low y (inr m))
      (pick_ind (λ w. Covers w d) (test x) (λ _. low x (inl refl)) (λ _. c))

  last_covers : (test : Slice → Bool) (v : Option Slice) (l : List Slice) → Rising key less same l → (d : Slice) → In d l
      → test d ≡ true
      → Covers (last_of test v l) d
  last_covers test v [] _ d x4 t = elim x4 [ ]
  last_covers test v (x ∷ l) (low, up) d (inl e) t =
      last_stays test (cond (test x) (some x) v) l d (λ y m. rw e (less_asym less same o (key x) (key y) (low y m)))
      (rw (← e, t) (self d))
  last_covers test v (x ∷ l) (low, up) d (inr m) t = last_covers test (cond (test x) (some x) v) l up d m t

  last_sorted : (f g : Slice → Bool) (slices : List Slice) → Apart f slices
      → Latest (λ d. f d && g d) slices (last_of g none (sorted key less same (kept f slices)))
  last_sorted f g slices one = record {
    within = λ b e. let (m, t) = last_in g order b e in let (n, y) = member b m in (n, rw y t);
    covers = λ d m t. let (y, z) = and_both (f d) (g d) t in
        let (x, i, e) = sorted_key key less same o (kept f slices) d ((kept_in f slices d).1 (m, y)) in
        let (n, w) = member x i in
        last_covers g none order (sorted_rising key less same o (kept f slices)) d
        (subst (λ z. In z order) (one x d n m w y e) i) z;
  }
    where
      order : List Slice
      order = sorted key less same (kept f slices)

      member : (b : Slice) → In b order → In b slices × (f b ≡ true)
      member b m = (kept_in f slices b).0 (sorted_within key less same o (kept f slices) b m)

  -- any latest is that last one
  last_is : (f g : Slice → Bool) (slices : List Slice) → Apart f slices → (v : Option Slice) → Latest (λ d. f d && g d) slices v
      → last_of g none (sorted key less same (kept f slices)) ≡ v
  last_is f g slices one v =
      latest_one (λ d. f d && g d) slices (λ a b m n y z. one a b m n (and_both (f a) (g a) y).0 (and_both (f b) (g b) z).0)
      (last_of g none (sorted key less same (kept f slices))) v (last_sorted f g slices one)

  -- ---- the one pass, where it goes by the same order
  module _ (test : Slice → Bool) where
    abbrev later : Slice → Slice → Bool
    later a b = less (key a) (key b)

    with_stays : (v : Option Placed) (i : ℕ) (x d : Slice) → Covers (slice_in v) d → Covers (slice_in (latest_with later test v i x)) d
    with_stays none i x d c = absurd c
    with_stays (some b) i x d c =
        let a = key b.slice in
        let z = key x in
        pick_ind (λ w. Covers (slice_in w) d) (test x && later b.slice x)
        (λ y. let l : less a z ≡ true = (and_both (test x) (later b.slice x) y).1 in
        never (less z (key d)) (λ k. contrary (o.trans a z (key d) l k) c))
        (λ _. c)

    with_own : (v : Option Placed) (i : ℕ) (d : Slice) → test d ≡ true → Covers (slice_in (latest_with later test v i d)) d
    with_own none i d t = rw t (self d)
    with_own (some b) i d t =
        pick_ind (λ w. Covers (slice_in w) d) (test d && later b.slice d) (λ _. self d)
        (λ n. rw t at n)

    from_stays : (v : Option Placed) (i : ℕ) (ds : List Slice) (d : Slice) → Covers (slice_in v) d
        → Covers (slice_in (latest_from later test v i ds)) d
    from_stays v i [] d c = c
    from_stays v i (x ∷ ds) d c = from_stays (latest_with later test v i x) (suc i) ds d (with_stays v i x d c)

    from_covers : (v : Option Placed) (i : ℕ) (ds : List Slice) (d : Slice) → In d ds → test d ≡ true
        → Covers (slice_in (latest_from later test v i ds)) d
    from_covers v i [] d x'' t = elim x'' [ ]
    from_covers v i (x ∷ ds) d (inl e) t =
        from_stays (latest_with later test v i x) (suc i) ds d (rw (← e) (with_own v i d t))
    from_covers v i (x ∷ ds) d (inr m) t = from_covers (latest_with later test v i x) (suc i) ds d m t

    pass_latest : (slices : List Slice) → Latest test slices (slice_in (latest_from later test none 0 slices))
    pass_latest slices =
        record { within = λ b. go b (latest_from later test none 0 slices) refl; covers = from_covers none 0 slices }
      where
        go : (b : Slice) (v : Option Placed) → latest_from later test none 0 slices ≡ v → slice_in v ≡ some b
            → In b slices × (test b ≡ true)
        go b none e q = absurd (none-ne-some b q)
        go b (some p) e q =
            let (l, g, t) = latest_placed later test slices p e in
            let s : p.slice ≡ b = some-injective p.slice b q in
            (subst (λ z. In z slices) (g b ∙ s) (get_or_in slices p.place b l), rw s at t)

-- ---- the TEMPDELTAs that are valid
-- slices of one kind rise by sequence number
of_kind : (kind : ℕ) (f : Slice → Bool) → ((d : Slice) → f d ≡ true → d.kind ≡ kind) → (slices : List Slice)
    → Rising slice_key key_less same_key slices
    → Rising sequence_in lower_sequence same_sequence (kept f slices)
unfolding key_less lower_sequence
of_kind kind f one [] up = tt
of_kind kind f one (d ∷ ds) (low, up) =
    pick_ind (Rising sequence_in lower_sequence same_sequence) (f d)
    (λ y. (
      λ x m. let (n, z) = (kept_in f ds x).0 m in
          higher d.kind d.sequence.0 x.kind x.sequence.0 (one d y ∙ sym (one x z)) (low x n),
      of_kind kind f one ds up,
    ))
    (λ _. of_kind kind f one ds up)
  where
    higher : (k a l b : ℕ) → k ≡ l → pair_less k a l b ≡ true → ltb a b ≡ true
    higher k a l b e h = ⊎_elim (λ m. absurd (omega arith)) (λ (_, m). lt-ltb a b m) (lex_true k a l b h)

last_kept : (f g : Slice → Bool) (v : Option Slice) (slices : List Slice)
    → last_of g v (kept f slices) ≡ last_of (λ d. f d && g d) v slices
last_kept f g v [] = refl
last_kept f g v (d ∷ ds) = by-test (f d) (λ y. rw y (last_kept f g (cond (g d) (some d) v) ds)) (λ n. rw n (last_kept f g v ds))

-- a pass that takes each that comes finds the last
pass_last : (test : Slice → Bool) (v : Option Placed) (i : ℕ) (ds : List Slice)
    → slice_in (latest_from (λ a b. true) test v i ds) ≡ last_of test (slice_in v) ds
pass_last test v i [] = refl
pass_last test v i (d ∷ ds) = pass_last test (latest_with (λ a b. true) test v i d) (suc i) ds ∙ ap (λ w. last_of test w ds) (taken v)
  where
    taken : (v : Option Placed) → slice_in (latest_with (λ a b. true) test v i d) ≡ cond (test d) (some d) (slice_in v)
    taken none = by-test (test d) (λ y. rw y) (λ n. rw n)
    taken (some b) = by-test (test d) (λ y. rw y) (λ n. rw n)

pub last_valid : (t : Instant) (slices : List Slice) → Rising slice_key key_less same_key slices → (q : ℕ)
    → last_of (tells q) none (passing t slices) ≡ slice_in (latest_valid q t slices)
unfolding valid passing latest_valid
last_valid t slices up q =
    ap (last_of (tells q) none)
    (sorted_same sequence_in lower_sequence same_sequence sequence_order (kept (valid t) slices) (of_kind tempdelta (valid t)
    (λ d y. counts_kind tempdelta d (and_both (counts tempdelta d) (holds t d.period.begin d.period.end) y).0) slices up))
    ∙ last_kept (valid t) (tells q) none slices ∙ sym (pass_last (λ d. valid t d && tells q d) none 0 slices)

-- ---- the PERMDELTAs that follow an anchor
-- one that is not earlier than one that follows follows
after_stays : (a : Anchor) (d e : Slice) → turn_less (turn_of e) (turn_of d) ≡ false → after a d ≡ true → after a e ≡ true
unfolding before same_instant lower_sequence turn_less
after_stays (based b) d e n y =
    let ahead : e.period.begin.0 < d.period.begin.0 → ⊥ =
    λ l. contrary (true_lex e.period.begin.0 e.sequence.0 d.period.begin.0 d.sequence.0 (inl l)) n in
    omega tests
after_stays (opened b) d e n y = less_on turn_less same_turn turn_order (turn_of b) (turn_of d) (turn_of e) y n
after_stays nowhere d e n y = y
after_stays two d e n y = y

after_latest : (a : Anchor) (test : Slice → Bool) (slices : List Slice) (v : Option Placed)
    → Latest turn_of turn_less same_turn turn_order test slices (slice_in v)
    → Latest turn_of turn_less same_turn turn_order (λ d. test d && after a d) slices (slice_in (after_only a v))
after_latest a test slices none f = record {
  within = λ b e. absurd (none-ne-some b e);
  covers = λ d m t. f.covers d m (and_both (test d) (after a d) t).0;
}
after_latest a test slices (some p) f =
    pick_ind (λ v. Latest turn_of turn_less same_turn turn_order (λ d. test d && after a d) slices (slice_in v)) (after a p.slice)
    (λ y. record {
      within = λ b e. let (m, t) = f.within b e in (m, rw t (ap (after a) (sym (some-injective p.slice b e)) ∙ y));
      covers = λ d m t. f.covers d m (and_both (test d) (after a d) t).0;
    })
    (λ n. record {
      within = λ b e. absurd (none-ne-some b e);
      covers = λ d m t. let (u, y) = and_both (test d) (after a d) t in contrary (after_stays a d p.slice (f.covers d m u) y) n;
    })

regroup : (counted since by told after' : Bool) → (after' ≡ true → since ≡ true)
    → (((counted && (since && by)) && told) && after') ≡ ((counted && (by && after')) && told)
regroup false since by told after' h = refl
regroup true true false told after' h = refl
regroup true true true told after' h = and_comm told after'
regroup true false by told true h = contrary (h refl) refl
regroup true false false told false h = refl
regroup true false true told false h = refl

-- changes before an instant may be left out where none of them comes after the anchor
pub last_due : (since t : Instant) (slices : List Slice) → Rising slice_key key_less same_key slices → (a : Anchor)
    → ((d : Slice) → after a d ≡ true → at_most since d.period.begin ≡ true) → (q : ℕ)
    → last_of (tells q) none (following t slices a) ≡ slice_in (after_only a (latest_due q since t slices))
unfolding follows due following latest_due
last_due since t slices up a all q =
    last_is turn_of turn_less same_turn turn_order (follows t a) (tells q) slices
    (λ b c m n y z e. counted_one permdelta slices up b c m n
    (and_both (counts permdelta b) (at_most b.period.begin t && after a b) y).0
    (and_both (counts permdelta c) (at_most c.period.begin t && after a c) z).0 (ap (λ k. k.sequence) e))
    (slice_in (after_only a (latest_from later_turn (λ d. due since t d && tells q d) none 0 slices)))
    (subst (λ test. Latest turn_of turn_less same_turn turn_order test slices (slice_in (after_only a (latest_due q since t slices))))
    (fun_ext (λ d. regroup (counts permdelta d) (at_most since d.period.begin) (at_most d.period.begin t) (tells q d)
    (after a d) (all d)))
    (after_latest a (λ d. due since t d && tells q d) slices (latest_due q since t slices)
    (pass_latest turn_of turn_less same_turn turn_order (λ d. due since t d && tells q d) slices)))
