-- What slices that apply in an order give, part by part: each part is what the last slice that tells it says. Assumes nothing.
use Prim.Native.Nat.{ℕ, zero, suc, ◌<◌}
use mathlib.Core.Path.{◌≡◌, refl, sym, ap, ◌∙◌, fun_ext}
use mathlib.Core.List.{List, [], ◌∷◌}
use mathlib.Core.Bool.{Bool, true, cond}
use mathlib.Core.Logic.{◌⊎◌, inl, inr, ⊎_elim}
use mathlib.Core.Option.{Option, none, some, none-ne-some, some-injective}
use native.Mathlib.Omega.{arith}
use lib.ListN.{length, get_or}
use borrow.Author.Tests.{lt-ltb}
use Rattle.laws.specs.Lists.{kept}
use Rattle.laws.specs.Keyed.{In}
use Rattle.laws.proofs.Tests.{pick_ind, by-test}
use Rattle.laws.proofs.Lists.{kept_in}
use Rattle.laws.proofs.Fresh.{sorted_within}
use Rattle.numbers.specs.Numbers.{none as none_time, is_none, given, lower_sequence, same_sequence}
use Rattle.numbers.specs.declared.Instant.{Instant}
use Rattle.numbers.proofs.Facts.{none_true}
use Rattle.numbers.proofs.Orders.{sequence_order}
use Rattle.slice.specs.declared.record.Life.{Life}
use Rattle.slice.specs.Record.{Property, unmentioned, says, is_mentioned, Slice}
use Rattle.history.specs.Anchor.{Anchor}
use Rattle.history.specs.State.{State, started, newer, over, new_time, applied, applied_all}
use Rattle.history.specs.Permanent.{turn_of, turn_less, same_turn, follows, following}
use Rattle.history.specs.Snapshot.{valid, sequence_in, passing}
use Rattle.history.specs.Source.{mentions, last_of, last_mention}
use Rattle.history.specs.Parts.{tells}
use Rattle.history.proofs.Orders.{turn_order}

-- ---- the last of some slices that passes a test
module _ (test : Slice → Bool) where
  last_from_lem : (o : Option Slice) (ds : List Slice) (b : Slice) → last_of test o ds ≡ some b
      → (o ≡ some b) ⊎ (In b ds × (test b ≡ true))
  last_from_lem o [] b e = inl e
  last_from_lem o (d ∷ ds) b e = ⊎_elim here (λ (m, t). inr (inr m, t)) (last_from_lem (cond (test d) (some d) o) ds b e)
    where
      here : cond (test d) (some d) o ≡ some b → (o ≡ some b) ⊎ (In b (d ∷ ds) × (test b ≡ true))
      here =
          pick_ind (λ v. v ≡ some b → (o ≡ some b) ⊎ (In b (d ∷ ds) × (test b ≡ true))) (test d)
          (λ t q. let e = some-injective d b q in inr (inl (sym e), ap test (sym e) ∙ t)) (λ _. inl)

  -- it is one of them, and passes
  pub last_in : (ds : List Slice) (b : Slice) → last_of test none ds ≡ some b → In b ds × (test b ≡ true)
  last_in ds b e = ⊎_elim (λ q. absurd (none-ne-some b q)) (λ p. p) (last_from_lem none ds b e)

-- the first of two where there is one
abbrev pub or_else : Option Slice → Option Slice → Option Slice
or_else none o = o
or_else (some d) o = some d

or_else_lem : (x : Option Slice) (d : Slice) (o : Option Slice) → or_else x (some d) ≡ or_else (or_else x (some d)) o
or_else_lem none d o = refl
or_else_lem (some x) d o = refl

-- what was so far counts where none of them passes
pub last_or : (test : Slice → Bool) (o : Option Slice) (ds : List Slice) → last_of test o ds ≡ or_else (last_of test none ds) o
last_or test o [] = refl
last_or test o (d ∷ ds) =
    by-test (test d)
    (λ t. let e = last_or test (some d) ds in rw t (e ∙ or_else_lem (last_of test none ds) d o ∙ ap (λ v. or_else v o) (sym e)))
    (λ n. rw n (last_or test o ds))

-- one test for another that tells the same
pub last_same : (f g : Slice → Bool) → ((d : Slice) → f d ≡ g d) → (o : Option Slice) (ds : List Slice)
    → last_of f o ds ≡ last_of g o ds
last_same f g h o ds = ap (λ f. last_of f o ds) (fun_ext h)

-- the first eight parts are the properties
pub tells_mentions : (p : ℕ) (d : Slice) → p < 8 → tells p d ≡ mentions p d
unfolding tells
tells_mentions p d h = rw (lt-ltb p 8 h)

-- ---- a part that a slice replaces where it tells it
module _ {W : Type 0} (get : State → W) (said : Option Slice → W) (test : Slice → Bool)
    (step : (s : State) (d : Slice) (o : Option Slice) → get s ≡ said o → get (applied s d) ≡ said (cond (test d) (some d) o)) where
  part_last : (ds : List Slice) (s : State) (o : Option Slice) → get s ≡ said o → get (applied_all s ds) ≡ said (last_of test o ds)
  part_last [] s o h = h
  part_last (d ∷ ds) s o h = part_last ds (applied s d) (cond (test d) (some d) o) (step s d o h)

-- ---- a property
abbrev pub said_in : ℕ → Option Slice → Property
said_in p none = unmentioned
said_in p (some d) = get_or d.properties p unmentioned

pub newer_unmentioned : (v : Property) → newer v unmentioned ≡ v
newer_unmentioned unmentioned = refl
newer_unmentioned (says v) = refl

pub over_at : (news olds : List Property) (p : ℕ)
    → get_or (over news olds) p unmentioned ≡ newer (get_or news p unmentioned) (get_or olds p unmentioned)
over_at [] olds p = refl
over_at (n ∷ news) [] p = sym (newer_unmentioned (get_or (n ∷ news) p unmentioned))
over_at (n ∷ news) (o ∷ olds) zero = refl
over_at (n ∷ news) (o ∷ olds) (suc p) = over_at news olds p

property_step : (p : ℕ) (d : Slice) (o : Option Slice) (old : Property) → old ≡ said_in p o
    → newer (get_or d.properties p unmentioned) old ≡ said_in p (cond (mentions p d) (some d) o)
unfolding mentions
property_step p d o old h = go (get_or d.properties p unmentioned) refl
  where
    go : (v : Property) → get_or d.properties p unmentioned ≡ v → newer v old ≡ said_in p (cond (is_mentioned v) (some d) o)
    go unmentioned e = h
    go (says v) e = sym e

pub applied_property : (p : ℕ) (ds : List Slice) (s : State) (o : Option Slice) → get_or s.properties p unmentioned ≡ said_in p o
    → get_or (applied_all s ds).properties p unmentioned ≡ said_in p (last_of (mentions p) o ds)
unfolding applied
applied_property p =
    part_last (λ s. get_or s.properties p unmentioned) (said_in p) (mentions p)
    (λ s d o h. over_at d.properties s.properties p ∙ property_step p d o (get_or s.properties p unmentioned) h)

pub line_property : (p : ℕ) (a : Slice) (ds : List Slice)
    → get_or (applied_all (started a) ds).properties p unmentioned ≡ said_in p (last_mention p (a ∷ ds))
unfolding last_mention
line_property p a ds =
    applied_property p ds (started a) (cond (mentions p a) (some a) none)
    (sym (newer_unmentioned (get_or a.properties p unmentioned)) ∙ property_step p a none unmentioned refl)

-- ---- a life time
time_first : (new : Instant) → new ≡ new_time new none_time
unfolding new_time
time_first new = pick_ind (λ v. new ≡ v) (is_none new) (λ e i. record { 0 = none_true new e i }) (λ _. refl)

-- the begin or the end, which one that is given replaces
module _ (time : Life → Instant) where
  abbrev pub time_in : Option Slice → Instant
  time_in none = none_time
  time_in (some d) = time d.life

  time_step : (d : Slice) (o : Option Slice) (old : Instant) → old ≡ time_in o
      → new_time (time d.life) old ≡ time_in (cond (given (time d.life)) (some d) o)
  unfolding new_time
  time_step d o old h = by-test (is_none (time d.life)) (λ y. rw y h) (λ n. rw n)

  line_time : ((s : State) (d : Slice) → time (applied s d).life ≡ new_time (time d.life) (time s.life))
      → (a : Slice) (ds : List Slice)
      → time (applied_all (started a) ds).life ≡ time_in (last_of (λ d. given (time d.life)) none (a ∷ ds))
  line_time replaced a ds =
      part_last (λ s. time s.life) time_in (λ d. given (time d.life))
      (λ s d o h. replaced s d ∙ time_step d o (time s.life) h)
      ds (started a) (cond (given (time a.life)) (some a) none) (time_first (time a.life) ∙ time_step a none none_time refl)

abbrev pub begin_in : Option Slice → Instant
begin_in = time_in (λ l. l.begin)

abbrev pub end_in : Option Slice → Instant
end_in = time_in (λ l. l.end)

module _ (a : Slice) (ds : List Slice) where
  pub line_begin : (applied_all (started a) ds).life.begin ≡ begin_in (last_of (tells 8) none (a ∷ ds))
  unfolding applied tells
  line_begin = line_time (λ l. l.begin) (λ s d. refl) a ds

  pub line_end : (applied_all (started a) ds).life.end ≡ end_in (last_of (tells 9) none (a ∷ ds))
  unfolding applied tells
  line_end = line_time (λ l. l.end) (λ s d. refl) a ds

-- ---- how many properties
pub over_length : (news olds : List Property) → length news ≡ length olds → length (over news olds) ≡ length olds
over_length [] olds e = refl
over_length (n ∷ news) [] e = e
over_length (n ∷ news) (o ∷ olds) e = ap suc (over_length news olds (omega arith))

pub applied_length : (n : ℕ) (ds : List Slice) (s : State) → length s.properties ≡ n
    → ((d : Slice) → In d ds → length d.properties ≡ n)
    → length (applied_all s ds).properties ≡ n
unfolding applied
applied_length n [] s e h = e
applied_length n (d ∷ ds) s e h =
    applied_length n ds (applied s d) (over_length d.properties s.properties (h d (inl refl) ∙ sym e) ∙ e)
    (λ x m. h x (inr m))

-- ---- which slices apply
pub following_in : (t : Instant) (slices : List Slice) (a : Anchor) (d : Slice) → In d (following t slices a)
    → In d slices × (follows t a d ≡ true)
unfolding following
following_in t slices a d m =
    (kept_in (follows t a) slices d).0 (sorted_within turn_of turn_less same_turn turn_order (kept (follows t a) slices) d m)

pub passing_in : (t : Instant) (slices : List Slice) (d : Slice) → In d (passing t slices) → In d slices × (valid t d ≡ true)
unfolding passing
passing_in t slices d m =
    (kept_in (valid t) slices d).0 (sorted_within sequence_in lower_sequence same_sequence sequence_order (kept (valid t) slices) d m)
