-- The line of slices that make the permanent state: it is made of slices that are there, the state is what they give in their
-- turn, and each property of a state is a property of one of them. Assumes nothing.
use Prim.Native.Nat.{ℕ, ◌<◌}
use mathlib.Core.Path.{◌≡◌, refl}
use mathlib.Core.List.{List, [], ◌∷◌}
use mathlib.Core.Bool.{Bool, true, false, cond, true≢false, ◌&&◌, and-false}
use mathlib.Core.Logic.{◌⊎◌, inl, inr, ⊎_elim}
use lib.Dec.{eqb, leb}
use Rattle.laws.specs.Lists.{kept}
use Rattle.laws.specs.Keyed.{In}
use Rattle.laws.proofs.Tests.{and_both, tests}
use Rattle.laws.proofs.Lists.{kept_in}
use Rattle.numbers.specs.Numbers.{given, at_most, no_instant, is_none, before}
use Rattle.numbers.specs.declared.Instant.{Instant}
use Rattle.slice.specs.Record.{baseline, permdelta, Property, unmentioned, says, Slice}
use Rattle.history.specs.Counted.{counts, holds}
use Rattle.history.specs.Period.{until}
use Rattle.history.specs.Anchor.{stands, opens, Anchor, based, opened, nowhere, two, only, anchor}
use Rattle.history.specs.State.{State, started, newer, over, applied, applied_all}
use Rattle.history.specs.Permanent.{following, refuses, known, withdrawn, unless_withdrawn, reached, standing_from, permanent_at}
use Rattle.history.specs.Source.{line_from, line}
use Rattle.history.proofs.Parts.{following_in}

-- ---- the slices of the line are there
-- an anchor's slice is there and counts
abbrev pub Within : List Slice → Anchor → Type 0
Within slices (based b) = In b slices × (counts baseline b ≡ true)
Within slices (opened o) = In o slices × (counts permdelta o ≡ true)
Within slices nowhere = Unit {0}
Within slices two = Unit {0}

pub only_within : (slices : List Slice) (at : Slice → Anchor) (otherwise : Anchor) (l : List Slice)
    → ((x : Slice) → In x l → Within slices (at x))
    → Within slices otherwise → Within slices (only at otherwise l)
only_within slices at otherwise [] f w = w
only_within slices at otherwise (x ∷ []) f w = f x (inl refl)
only_within slices at otherwise (x ∷ y ∷ xs) f w = tt

module _ (t : Instant) (slices : List Slice) where
  pub anchor_within : Within slices (anchor t slices)
  unfolding anchor stands opens
  anchor_within =
      only_within slices based (only opened nowhere (kept (opens t) slices)) (kept (stands slices t) slices)
      (λ b m. let (i, y) = (kept_in (stands slices t) slices b).0 m in
      (i, (and_both (counts baseline b) (holds t b.period.begin (until slices b)) y).0))
      (only_within slices opened nowhere (kept (opens t) slices)
      (λ o m. let (i, y) = (kept_in (opens t) slices o).0 m in
      (i, (and_both (counts permdelta o) (given o.life.begin && at_most o.period.begin t) y).0))
      tt)

  pub line_in : (d : Slice) → In d (line t slices) → In d slices
  unfolding line
  line_in d = go (anchor t slices) anchor_within
    where
      go : (a : Anchor) → Within slices a → In d (line_from t slices a) → In d slices
      go (based b) w (inl e) = rw e w.0
      go (based b) w (inr m) = (following_in t slices (based b) d m).0
      go (opened o) w (inl e) = rw e w.0
      go (opened o) w (inr m) = (following_in t slices (opened o) d m).0
      go nowhere w m = absurd m
      go two w m = absurd m

-- ---- the state is what they give
pub known_apart : (n : ℕ) (s : State) → refuses n ≡ known s → ⊥
known_apart n s e = true≢false cc

pub known_same : (b : Bool) (s s' : State) → cond b (refuses 22) (known s') ≡ known s → s ≡ s'
known_same true s s' e = cc
known_same false s s' e = cc

module _ (t : Instant) (slices : List Slice) (s : State) where
  -- s is what an anchor and the slices behind it give
  abbrev pub Lined : List Slice → Type 0
  Lined l = (a : Slice) × (ds : List Slice) × (l ≡ a ∷ ds) × (s ≡ applied_all (started a) ds)

  pub known_line : permanent_at t slices ≡ known s → Lined (line t slices)
  unfolding permanent_at line reached unless_withdrawn
  known_line = go (anchor t slices)
    where
      go : (a : Anchor) → standing_from t slices a ≡ known s → Lined (line_from t slices a)
      go (based b) e =
          let ds = following t slices (based b) in
          (b, ds, refl, known_same (withdrawn t (applied_all (started b) ds)) s (applied_all (started b) ds) e)
      go (opened o) e =
          let ds = following t slices (opened o) in
          (o, ds, refl, known_same (withdrawn t (applied_all (started o) ds)) s (applied_all (started o) ds) e)
      go nowhere e = absurd (known_apart 20 s e)
      go two e = absurd (known_apart 21 s e)

-- ---- each property of a state comes from a slice
newer_one : (n o x : Property) → x ≡ newer n o → (x ≡ n) ⊎ (x ≡ o)
newer_one unmentioned o x e = inr e
newer_one (says p) o x e = inl e

over_within : (news olds : List Property) (x : Property) → In x (over news olds) → In x news ⊎ In x olds
over_within [] olds x m = inr m
over_within (n ∷ news) [] x m = inl m
over_within (n ∷ news) (o ∷ olds) x (inl e) = ⊎_elim (λ p. inl (inl p)) (λ p. inr (inl p)) (newer_one n o x e)
over_within (n ∷ news) (o ∷ olds) x (inr m) = ⊎_elim (λ p. inl (inr p)) (λ p. inr (inr p)) (over_within news olds x m)

pub applied_within : (ds : List Slice) (s : State) (x : Property) → In x (applied_all s ds).properties
    → In x s.properties ⊎ ((d : Slice) × In d ds × In x d.properties)
unfolding applied
applied_within [] s x m = inl m
applied_within (d ∷ ds) s x m =
    ⊎_elim (λ p. ⊎_elim (λ q. inr (d, inl refl, q)) inl (over_within d.properties s.properties x p))
    (λ (b, n, q). inr (b, inr n, q))
    (applied_within ds (applied s d) x m)

pub line_within : (a : Slice) (ds : List Slice) (x : Property) → In x (applied_all (started a) ds).properties
    → (d : Slice) × In d (a ∷ ds) × In x d.properties
line_within a ds x m = ⊎_elim (λ p. (a, inl refl, p)) (λ (d, n, q). (d, inr n, q)) (applied_within ds (started a) x m)

-- a life end that is none or later does not withdraw
pub unless_known : (t : Instant) (s : State) → before t s.life.end ≡ true → unless_withdrawn t s ≡ known s
unfolding unless_withdrawn withdrawn before at_most
unless_known t s h =
    let b : leb s.life.end.0 t.0 ≡ false = omega tests in
    rw (b, and-false (given s.life.end))

pub unless_gone : (t : Instant) (s : State) → t.0 < no_instant → before t s.life.end ≡ false → unless_withdrawn t s ≡ refuses 22
unfolding unless_withdrawn withdrawn before at_most is_none
unless_gone t s l h =
    let b : leb s.life.end.0 t.0 ≡ true = omega tests in
    let n : eqb s.life.end.0 no_instant ≡ false = omega tests in
    rw (n, b)
