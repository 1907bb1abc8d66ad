-- The snapshot and the property question are refused alike, but for the buffer: they make the same tests, and look at the same
-- permanent state. Assumes nothing.
use Prim.Native.Nat.{ℕ, ◌<◌}
use mathlib.Core.Path.{◌≡◌, refl, sym, ap, ◌∙◌}
use mathlib.Core.List.{List, [], ◌∷◌, ◌++◌}
use mathlib.Core.Bool.{Bool, true, false, cond, ◌||◌, or-false}
use mathlib.Core.Logic.{◌⊎◌, inl, inr, ⊎_elim}
use mathlib.Core.Option.{Option, none, some, none-ne-some, some-injective}
use native.Mathlib.Omega.{arith}
use borrow.Author.Tests.{le-ltb}
use Rattle.laws.specs.Refusals.{Test, test, refuse}
use Rattle.laws.proofs.Refusals.{refuse_join, refuse_map}
use Rattle.numbers.specs.Numbers.{is_none}
use Rattle.numbers.specs.declared.Instant.{Instant}
use Rattle.slice.specs.Record.{Slice}
use Rattle.history.specs.Permanent.{Standing, refuses, known, permanent_at}
use Rattle.history.specs.Snapshot.{passing, overlaid, snapshot_at}
use Rattle.history.specs.Source.{line, last_mention}
use Rattle.state.specs.Asking.{slices_of, both_tests, misfits, writing_tests, asking_tests, refused_outcome, outcome_of}
use Rattle.state.specs.Asking.{snapshot_of}
use Rattle.state.specs.Asking.{refused_place, placed, place_at, place_of}
use Rattle.state.specs.Asking.{Outcome}
use Rattle.std.specs.Prelude.{Ok, Err}
use Rattle.state.specs.Asking.{Located}
use Rattle.state.specs.declared.question.Place.TheVariants as place

-- the number of a refusal, where there is one
abbrev outcome_refusal : Outcome → Option ℕ
outcome_refusal (Ok _) = none
outcome_refusal (Err f) = some f

abbrev place_refusal : Located → Option ℕ
place_refusal (Ok (place.Permanent k)) = none
place_refusal (Ok (place.Temporary k)) = none
place_refusal (Ok place.Unmentioned) = none
place_refusal (Err f) = some f

outcome_refused : (o : Outcome) (k : ℕ) → outcome_refusal o ≡ some k → o ≡ refused_outcome k
outcome_refused (Ok _) k e = absurd (none-ne-some k e)
outcome_refused (Err f) k e = ap refused_outcome (some-injective f k e)

place_refused : (o : Located) (k : ℕ) → place_refusal o ≡ some k → o ≡ refused_place k
place_refused (Ok (place.Permanent _)) k e = absurd (none-ne-some k e)
place_refused (Ok (place.Temporary _)) k e = absurd (none-ne-some k e)
place_refused (Ok place.Unmentioned) k e = absurd (none-ne-some k e)
place_refused (Err f) k e = ap refused_place (some-injective f k e)

-- tests that refuse with a number do so whatever comes behind them
past : (c : Bool) (n k : ℕ) (x y : Option ℕ) → (x ≡ some k → y ≡ some k) → cond c (some n) x ≡ some k → cond c (some n) y ≡ some k
past true n k x y f = λ e. e
past false n k x y f = f

past_all : (xs : List Test) (k : ℕ) (x y : Option ℕ) → (x ≡ some k → y ≡ some k) → refuse some xs x ≡ some k
    → refuse some xs y ≡ some k
past_all [] k x y f = f
past_all (a ∷ xs) k x y f = past a.fails a.number k (refuse some xs x) (refuse some xs y) (past_all xs k x y f)

or_behind : (xs : List Test) (k : ℕ) (x y : Option ℕ) → refuse some xs x ≡ some k
    → (refuse some xs y ≡ some k) ⊎ (refuse some xs y ≡ y)
or_behind [] k x y = λ _. inr refl
or_behind (a ∷ xs) k x y = go a.fails (or_behind xs k x y)
  where
    go : (c : Bool) → (refuse some xs x ≡ some k → (refuse some xs y ≡ some k) ⊎ (refuse some xs y ≡ y))
        → cond c (some a.number) (refuse some xs x) ≡ some k
        → (cond c (some a.number) (refuse some xs y) ≡ some k) ⊎ (cond c (some a.number) (refuse some xs y) ≡ y)
    go true f e = inl e
    go false f e = f e

module _ (p t : List ℕ) (at : Instant) (n : ℕ) (h : n < 8) where
  -- the tests that both make, and what the permanent state refuses
  abbrev tests : List Test
  tests = both_tests p t ++ (test 19 (is_none at) ∷ [])

  abbrev rest : Option ℕ
  rest = place_refusal (place_at p t at n (permanent_at at (slices_of p)))

  placed_none : (u v : Option Slice) → none ≡ place_refusal (placed p t n u v)
  placed_none (some d) v = refl
  placed_none none (some d) = refl
  placed_none none none = refl

  standing_rest : (st : Standing)
      → outcome_refusal (outcome_of (overlaid (passing at (slices_of t)) st)) ≡ place_refusal (place_at p t at n st)
  standing_rest (refuses k) = refl
  standing_rest (known s) = placed_none (last_mention n (passing at (slices_of t))) (last_mention n (line at (slices_of p)))

  place_number : place_refusal (place_of p t at n) ≡ refuse some tests rest
  unfolding place_of
  place_number =
      refuse_map place_refusal refused_place some (λ k. refl) (both_tests p t ++ asking_tests at n)
      (place_at p t at n (permanent_at at (slices_of p)))
      ∙ ap (λ (b : Bool). refuse some (both_tests p t ++ (test 19 b ∷ [])) rest)
      (ap (λ (b : Bool). is_none at || b) (le-ltb 7 n (omega arith)) ∙ or-false (is_none at))

  module _ (buffer : List ℕ) where
    snapshot_number : outcome_refusal (snapshot_of p t at buffer) ≡ refuse some tests (cond (misfits p buffer) (some 23) rest)
    unfolding snapshot_of snapshot_at
    snapshot_number =
        refuse_map outcome_refusal refused_outcome some (λ k. refl) (both_tests p t ++ writing_tests p at buffer)
        (outcome_of (snapshot_at at (slices_of p) (slices_of t)))
        ∙ refuse_join some (both_tests p t) (writing_tests p at buffer) _
        ∙ sym (refuse_join some (both_tests p t) (test 19 (is_none at) ∷ []) _)
        ∙ ap (λ (x : Option ℕ). refuse some tests (cond (misfits p buffer) (some 23) x))
        (standing_rest (permanent_at at (slices_of p)))

    -- what refuses the snapshot, the buffer apart, refuses the property
    pub place_refused_too : (k : ℕ) → (k ≡ 23 → ⊥) → snapshot_of p t at buffer ≡ refused_outcome k → place_of p t at n ≡ refused_place k
    place_refused_too k other e =
        place_refused (place_of p t at n) k
        (place_number
        ∙ past_all tests k (cond (misfits p buffer) (some 23) rest) rest (not_23 (misfits p buffer))
        (sym snapshot_number ∙ ap outcome_refusal e))
      where
        not_23 : (m : Bool) → cond m (some 23) rest ≡ some k → rest ≡ some k
        not_23 true q = absurd (other (sym (some-injective 23 k q)))
        not_23 false q = q

    -- and what refuses the property refuses the snapshot, unless the buffer does
    pub snapshot_refused_too : (k : ℕ) → place_of p t at n ≡ refused_place k
        → (snapshot_of p t at buffer ≡ refused_outcome k)
        ⊎ ((misfits p buffer ≡ true) × (snapshot_of p t at buffer ≡ refused_outcome 23))
    snapshot_refused_too k e = go (misfits p buffer) refl
      where
        so : refuse some tests rest ≡ some k
        so = sym place_number ∙ ap place_refusal e

        number : (m : Bool) → misfits p buffer ≡ m
            → outcome_refusal (snapshot_of p t at buffer) ≡ refuse some tests (cond m (some 23) rest)
        number m q = snapshot_number ∙ ap (λ (b : Bool). refuse some tests (cond b (some 23) rest)) q

        go : (m : Bool) → misfits p buffer ≡ m
            → (snapshot_of p t at buffer ≡ refused_outcome k)
            ⊎ ((misfits p buffer ≡ true) × (snapshot_of p t at buffer ≡ refused_outcome 23))
        go true q =
            ⊎_elim (λ r. inl (outcome_refused (snapshot_of p t at buffer) k (number true q ∙ r)))
            (λ r. inr (q, outcome_refused (snapshot_of p t at buffer) 23 (number true q ∙ r)))
            (or_behind tests k rest (some 23) so)
        go false q = inl (outcome_refused (snapshot_of p t at buffer) k (number false q ∙ so))
