-- The permanent state stays as it is from one change instant to the next, and there is none before the first. Assumes nothing.
use Prim.Native.Nat.{◌<◌}
use mathlib.Core.Path.{◌≡◌, refl, sym, ap, ap₂, ◌∙◌}
use mathlib.Core.List.{List, ◌∷◌}
use mathlib.Core.Bool.{Bool, true, false, cond, not, ◌&&◌, and-false}
use mathlib.Core.Logic.{◌⊎◌, inl, inr, ⊎_elim}
use mathlib.Core.Option.{Option, none, some}
use Rattle.laws.specs.Keyed.{In, sorted}
use Rattle.laws.proofs.Tests.{tests, by-test, and_both}
use Rattle.numbers.specs.Numbers.{no_instant, none as none_time, given, before, at_most}
use Rattle.numbers.specs.declared.Instant.{Instant}
use Rattle.slice.specs.Record.{baseline, permdelta, Slice}
use Rattle.history.specs.Counted.{counts, holds}
use Rattle.history.specs.Period.{until}
use Rattle.history.specs.Anchor.{stands, opens, Anchor, based, opened, nowhere, two, only, anchor}
use Rattle.history.specs.State.{State, started, applied_all}
use Rattle.history.specs.Permanent.{turn_of, turn_less, same_turn, after, follows, following, refuses, known, withdrawn}
use Rattle.history.specs.Permanent.{unless_withdrawn, reached, standing_from, permanent_at}
use Rattle.history.specs.Source.{last_of, line_from, line}
use Rattle.history.specs.Parts.{tells}
use Rattle.history.specs.Changes.{change_instants}
use Rattle.history.proofs.Parts.{last_in, end_in, line_end, following_in}
use Rattle.history.proofs.Line.{Within, anchor_within, known_line}
use Rattle.history.proofs.Selection.{and_under, kept_same, kept_none}
use Rattle.history.proofs.Changes.{Changing, begin_changing, life_changing, delta_changing}
use Rattle.history.proofs.Periods.{until_changing}

-- a PERMDELTA's life end is none or its instant (the check of times asks it, 15)
abbrev pub Timely : List Slice → Type 0
Timely slices = (d : Slice) → In d slices → counts permdelta d ≡ true → (d.life.end ≡ none_time) ⊎ (d.life.end ≡ d.period.begin)

-- ---- a life end is a change instant or none
module _ (slices : List Slice) (ok : Timely slices) (t : Instant) where
  delta_life : (d : Slice) → In d slices → counts permdelta d ≡ true → Changing slices d.life.end
  delta_life d m c = ⊎_elim inl (λ e. rw e (delta_changing slices d m c)) (ok d m c)

  follower_life : (a : Anchor) (d : Slice) → In d (following t slices a) → Changing slices d.life.end
  unfolding follows
  follower_life a d m =
      let (i, y) = following_in t slices a d m in
      delta_life d i (and_both (counts permdelta d) (at_most d.period.begin t && after a d) y).0

  -- of each slice that makes the state
  line_life : (a : Anchor) → Within slices a → (d : Slice) → In d (line_from t slices a) → Changing slices d.life.end
  line_life (based b) (i, c) d (inl e) = rw e (life_changing slices b i c)
  line_life (based b) w d (inr m) = follower_life (based b) d m
  line_life (opened o) (i, c) d (inl e) = rw e (delta_life o i c)
  line_life (opened o) w d (inr m) = follower_life (opened o) d m
  line_life nowhere w d m = absurd m
  line_life two w d m = absurd m

  -- and of the state that they make
  made_life : (a : Slice) (ds : List Slice) → ((d : Slice) → In d (a ∷ ds) → Changing slices d.life.end)
      → Changing slices (applied_all (started a) ds).life.end
  made_life a ds h = rw (line_end a ds) (go (last_of (tells 9) none (a ∷ ds)) refl)
    where
      go : (v : Option Slice) → last_of (tells 9) none (a ∷ ds) ≡ v → Changing slices (end_in v)
      go none e = inl refl
      go (some d) e = h d (last_in (tells 9) (a ∷ ds) d e).0

  pub known_life : (s : State) → permanent_at t slices ≡ known s → Changing slices s.life.end
  unfolding line
  known_life s h =
      let (a, ds, e, q) = known_line t slices s h in
      rw q (made_life a ds (λ d m. line_life (anchor t slices) (anchor_within t slices) d (rw e m)))

-- ---- no change between
-- t and u lie on one side of each instant of a list
abbrev pub Alike : List Instant → Instant → Instant → Type 0
Alike l t u = (x : Instant) → In x l → at_most x t ≡ at_most x u

before_not : (t x : Instant) → before t x ≡ not (at_most x t)
unfolding before at_most
before_not t x = by-test (at_most x t) (λ y. rw y (omega tests)) (λ n. rw n (omega tests))

none_late : (x t : Instant) → x ≡ none_time → t.0 < no_instant → at_most x t ≡ false
unfolding at_most
none_late x t e l = omega (tests, ap (λ i. i.0) e)

module _ (slices : List Slice) (ok : Timely slices) (t u : Instant) (lt : t.0 < no_instant) (lu : u.0 < no_instant)
    (alike : Alike (change_instants slices) t u) where
  most_same : (x : Instant) → Changing slices x → at_most x t ≡ at_most x u
  most_same x (inl e) = none_late x t e lt ∙ sym (none_late x u e lu)
  most_same x (inr m) = alike x m

  before_same : (x : Instant) → Changing slices x → before t x ≡ before u x
  before_same x c = before_not t x ∙ ap not (most_same x c) ∙ sym (before_not u x)

  stands_same : (b : Slice) → In b slices → stands slices t b ≡ stands slices u b
  unfolding stands holds
  stands_same b m =
      and_under (counts baseline b)
      (λ c. ap₂ ◌&&◌ (most_same b.period.begin (begin_changing slices b m c))
      (before_same (until slices b) (until_changing slices b m c)))

  opens_same : (d : Slice) → In d slices → opens t d ≡ opens u d
  unfolding opens
  opens_same d m =
      and_under (counts permdelta d)
      (λ c. ap (λ (y : Bool). given d.life.begin && y) (most_same d.period.begin (delta_changing slices d m c)))

  follows_same : (a : Anchor) (d : Slice) → In d slices → follows t a d ≡ follows u a d
  unfolding follows
  follows_same a d m =
      and_under (counts permdelta d)
      (λ c. ap (λ (y : Bool). y && after a d) (most_same d.period.begin (delta_changing slices d m c)))

  anchor_same : anchor t slices ≡ anchor u slices
  unfolding anchor
  anchor_same =
      ap₂ (λ os bs. only based (only opened nowhere os) bs) (kept_same (opens t) (opens u) slices opens_same)
      (kept_same (stands slices t) (stands slices u) slices stands_same)

  reached_same : (a : Anchor) (s : Slice) → ((d : Slice) → In d (s ∷ following t slices a) → Changing slices d.life.end)
      → reached t slices a s ≡ reached u slices a s
  unfolding reached following unless_withdrawn withdrawn
  reached_same a s h =
      let made = applied_all (started s) (following t slices a) in
      ap (λ (y : Bool). cond (given made.life.end && y) (refuses 22) (known made))
      (most_same made.life.end (made_life slices ok t s (following t slices a) h))
      ∙ ap (λ ds. unless_withdrawn u (applied_all (started s) (sorted turn_of turn_less same_turn ds)))
      (kept_same (follows t a) (follows u a) slices (follows_same a))

  from_same : (a : Anchor) → Within slices a → standing_from t slices a ≡ standing_from u slices a
  from_same (based b) w = reached_same (based b) b (line_life slices ok t (based b) w)
  from_same (opened o) w = reached_same (opened o) o (line_life slices ok t (opened o) w)
  from_same nowhere w = refl
  from_same two w = refl

  -- STEADY: no change instant between t and u, the same state
  pub permanent_same : permanent_at t slices ≡ permanent_at u slices
  unfolding permanent_at
  permanent_same = from_same (anchor t slices) (anchor_within t slices) ∙ ap (standing_from u slices) anchor_same

-- ---- before the first change instant there is no state
module _ (slices : List Slice) (t : Instant) (lt : t.0 < no_instant)
    (early : (x : Instant) → In x (change_instants slices) → t.0 < x.0) where
  not_yet : (x : Instant) → Changing slices x → at_most x t ≡ false
  unfolding at_most
  not_yet x (inl e) = none_late x t e lt
  not_yet x (inr m) = omega (tests, early x m)

  none_stands : (b : Slice) → In b slices → stands slices t b ≡ false
  unfolding stands holds
  none_stands b m =
      and_under (counts baseline b) (λ c. rw (not_yet b.period.begin (begin_changing slices b m c)))
      ∙ and-false (counts baseline b)

  none_opens : (d : Slice) → In d slices → opens t d ≡ false
  unfolding opens
  none_opens d m =
      and_under (counts permdelta d)
      (λ c. rw (not_yet d.period.begin (delta_changing slices d m c)) (and-false (given d.life.begin)))
      ∙ and-false (counts permdelta d)

  pub permanent_none : permanent_at t slices ≡ refuses 20
  unfolding permanent_at anchor
  permanent_none = rw (kept_none (stands slices t) slices none_stands, kept_none (opens t) slices none_opens)
