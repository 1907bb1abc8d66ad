-- The standing at an instant as tests: 21, 20, 22. Assumes nothing.
use Prim.Native.Nat.{ℕ}
use mathlib.Core.Path.{◌≡◌, refl}
use mathlib.Core.List.{List}
use mathlib.Core.Bool.{Bool, true, false, cond}
use Rattle.laws.specs.Refusals.{refuse}
use Rattle.numbers.specs.declared.Instant.{Instant}
use Rattle.slice.specs.Record.{Slice}
use Rattle.history.specs.Anchor.{Anchor, based, opened, nowhere, two, anchor}
use Rattle.history.specs.State.{State, started, applied_all}
use Rattle.history.specs.Permanent.{following, Standing, refuses, known, withdrawn, unless_withdrawn, reached, standing_from}
use Rattle.history.specs.Permanent.{permanent_at}
use Rattle.demands.specs.Refused.{is_two, is_nowhere, is_withdrawn, standing_tests}

-- the state that an anchor gives; where there is none, any
abbrev state_by : Instant → List Slice → State → Anchor → State
state_by t slices s (based b) = applied_all (started b) (following t slices (based b))
state_by t slices s (opened o) = applied_all (started o) (following t slices (opened o))
state_by t slices s nowhere = s
state_by t slices s two = s

-- what any kind of answer makes of a standing
module _ {A : Type 0} (refused : ℕ → A) (written : State → A) where
  abbrev pub answered : Standing → A
  answered (refuses n) = refused n
  answered (known s) = written s

  split : (b : Bool) (s : State) → answered (cond b (refuses 22) (known s)) ≡ cond b (refused 22) (written s)
  split true s = refl
  split false s = refl

  pub standing_tests_lem : (t : Instant) (slices : List Slice) (s : State)
      → answered (permanent_at t slices) ≡ refuse refused (standing_tests t slices) (written (state_by t slices s (anchor t slices)))
  unfolding permanent_at reached unless_withdrawn
  standing_tests_lem t slices s = go (anchor t slices)
    where
      go : (a : Anchor) → answered (standing_from t slices a)
          ≡ cond (is_two a) (refused 21)
          (cond (is_nowhere a) (refused 20) (cond (is_withdrawn t slices a) (refused 22) (written (state_by t slices s a))))
      go (based b) = split (withdrawn t (applied_all (started b) (following t slices (based b)))) _
      go (opened o) = split (withdrawn t (applied_all (started o) (following t slices (opened o)))) _
      go nowhere = refl
      go two = refl
