-- The marks of the latest mention, step by step, and that a pass keeps for each part the mark of its latest mention.
-- Assumes nothing.
use Prim.Native.Nat.{ℕ, zero, suc, ◌+◌, ◌≤◌, ◌<◌}
use mathlib.Core.Path.{◌≡◌, refl, sym, ap, ◌∙◌}
use mathlib.Core.Bool.{Bool, true, false, cond, ◌&&◌, and-false}
use mathlib.Core.List.{List, [], ◌∷◌}
use mathlib.Core.Logic.{inl, inr, ⊎_elim}
use mathlib.Core.Option.{Option, none, some}
use native.Mathlib.Omega.{arith}
use lib.ListN.{length, get_or, drop, set}
use lib.Dec.{eqb, ltb, leb}
use lib.Seq.{get_or-set_same, get_or-set_other}
use Rattle.laws.specs.Keyed.{In}
use Rattle.laws.proofs.Tests.{tests, by-test, contrary, and_both, or_either}
use Rattle.slice.specs.Record.{Slice}
use Rattle.history.specs.Parts.{tells, Placed, pass_from, later_turn, latest_with}
use Rattle.state.specs.Steps.{later_of, among, wanted, mark_of, mark_due, place_and_one, one_more, tally_with}
use Rattle.state.specs.declared.anchor.Few.{Few}

-- ---- one record, part by part
-- the parts from one up to another
module _ (from to : ℕ) where
  pub among_none : (q : ℕ) → to ≤ from → among from to q ≡ false
  unfolding among
  among_none q h = by-test (leb from q) (λ y. by-test (ltb q to) (λ z. absurd (omega tests)) (λ z. rw (y, z))) (λ y. rw y)

-- what is kept of each part, with that of the parts from `from` up to `part` gone one step on
module _ {A : Type 0} (none' : A) (from : ℕ) (step : ℕ → A → A) where
  abbrev pub Noted : List A → List A → ℕ → Type 0
  Noted xs₀ xs part = (q : ℕ) → get_or xs q none' ≡ cond (among from part q) (step q (get_or xs₀ q none')) (get_or xs₀ q none')

  pub noted_start : (xs : List A) → Noted xs xs from
  noted_start xs q = rw (among_none from from q (omega arith))

  pub noted_turn : (xs₀ xs : List A) (part : ℕ) (x : A) → from ≤ part → part < length xs → Noted xs₀ xs part
      → x ≡ step part (get_or xs part none')
      → Noted xs₀ (set xs part x) (part + 1)
  unfolding among
  noted_turn xs₀ xs part x h k before e q =
      by-test (eqb q part)
      (λ y. let w : q ≡ part = omega tests in
      let old : ltb part part ≡ false = omega tests in
      let a : leb from part ≡ true = omega tests in
      let b : ltb part (part + 1) ≡ true = omega tests in
      let kept : get_or xs part none' ≡ get_or xs₀ part none' = rw (a, old) at (before part) in
      rw (w, a, b, get_or-set_same xs part x none' k) (e ∙ ap (step part) kept))
      (λ y. let w : (q ≡ part → ⊥) = λ z. omega tests in
      get_or-set_other xs part q x none' w ∙ (before q ∙ same q (λ z. omega tests)))
    where
      same : (q : ℕ) → (q ≡ part → ⊥)
          → cond (leb from q && ltb q part) (step q (get_or xs₀ q none')) (get_or xs₀ q none') ≡ cond (leb from q && ltb q (part + 1))
          (step q (get_or xs₀ q none')) (get_or xs₀ q none')
      same q w = by-test (ltb q part)
          (λ y. let z : ltb q (part + 1) ≡ true = omega tests in rw (y, z))
          (λ y. let z : ltb q (part + 1) ≡ false = omega tests in rw (y, z))

  -- past the last part each of them has gone its step
  pub noted_end : (xs₀ xs : List A) (part to q : ℕ) → part ≤ to → to ≤ part → among from to q ≡ true → Noted xs₀ xs part
      → get_or xs q none' ≡ step q (get_or xs₀ q none')
  noted_end xs₀ xs part to q h k y noted =
      let e : part ≡ to = omega arith in
      noted q ∙ rw (e, y)

-- a life time is none of them
beyond : (from to q : ℕ) → to ≤ 8 → among 8 10 q ≡ true → among from to q ≡ false
unfolding among
beyond from to q h y =
    let a = (and_both (leb 8 q) _ y).0 in
    let z : ltb q to ≡ false = omega tests in
    rw (z, and-false)

-- the properties from one up to another, and then the life times
pub noted_wanted : {A : Type 0} (none' : A) (from to : ℕ) (step : ℕ → A → A) (xs₀ xs₁ xs : List A) → to ≤ 8
    → Noted none' from step xs₀ xs₁ to
    → Noted none' 8 step xs₁ xs 10 → (q : ℕ) → wanted from to q ≡ true → get_or xs q none' ≡ step q (get_or xs₀ q none')
unfolding wanted
noted_wanted none' from to step xs₀ xs₁ xs h one two q w =
    by-test (among 8 10 q)
    (λ y. let z = beyond from to q h y in rw y at (two q) ∙ ap (step q) (rw z at (one q)))
    (λ y. let z : among from to q ≡ true = ⊎_elim (λ z. z) (λ z. contrary z y) (or_either (among from to q) (among 8 10 q) w) in
    rw y at (two q) ∙ (rw z at (one q)))

-- ---- a pass
module _ {S : Type 0} (step : S → ℕ → Slice → S) where
  -- slices in front that change nothing
  front_from : (k i : ℕ) (s : S) (ds : List Slice) → k ≤ length ds
      → ((j : ℕ) (d : Slice) → j < k → (n : ℕ) → step s n (get_or ds j d) ≡ s)
      → pass_from step s i ds ≡ pass_from step s (i + k) (drop k ds)
  front_from zero i s ds h same = let e : i ≡ i + 0 = omega arith in ap (λ (n : ℕ). pass_from step s n ds) e
  front_from (suc k) i s [] h same = absurd (omega arith)
  front_from (suc k) i s (d ∷ ds) h same =
      let e : suc i + k ≡ i + suc k = omega arith in
      ap (λ v. pass_from step v (suc i) ds) (same 0 d (omega arith) i)
      ∙ front_from k (suc i) s ds (omega arith) (λ j x l. same (suc j) x (omega arith))
      ∙ ap (λ (n : ℕ). pass_from step s n (drop k ds)) e

  pub pass_front : (k : ℕ) (s : S) (ds : List Slice) → k ≤ length ds
      → ((j : ℕ) (d : Slice) → j < k → (n : ℕ) → step s n (get_or ds j d) ≡ s)
      → pass_from step s 0 ds ≡ pass_from step s k (drop k ds)
  pass_front k s ds h same = let e : 0 + k ≡ k = omega arith in
      front_from k 0 s ds h same ∙ ap (λ (n : ℕ). pass_from step s n (drop k ds)) e

  -- slices that change nothing
  pub pass_none : (i : ℕ) (s : S) (ds : List Slice) → ((d : Slice) → In d ds → (n : ℕ) → step s n d ≡ s) → pass_from step s i ds ≡ s
  pass_none i s [] same = refl
  pass_none i s (d ∷ ds) same = ap (λ v. pass_from step v (suc i) ds) (same d (inl refl) i)
      ∙ pass_none (suc i) s ds (λ x m. same x (inr m))

  -- what is kept stands for what a pass has found so far, and the rest of the pass gives what the whole gives
  module _ {A : Type 0} (keep : S → A) where
    abbrev pub Keeps : A → S → ℕ → List Slice → Type 0
    Keeps x all i rest = (s : S) × (x ≡ keep s) × (all ≡ pass_from step s i rest)

    pub keeps_turn : (x y : A) (all : S) (i : ℕ) (d : Slice) (rest rest' : List Slice) → rest ≡ d ∷ rest' → (turn : A → A)
        → ((s : S) → turn (keep s) ≡ keep (step s i d)) → y ≡ turn x → Keeps x all i rest → Keeps y all (i + 1) rest'
    keeps_turn x y all i d rest rest' next turn goes e (s, p, a) =
        let n : suc i ≡ i + 1 = omega arith in (
          step s i d,
          e ∙ (ap turn p ∙ goes s),
          a
              ∙ (ap (pass_from step s i) next ∙ ap (λ (n : ℕ). pass_from step (step s i d) n rest') n),
        )

    pub keeps_past : (x y : A) (all : S) (i : ℕ) (d : Slice) (rest rest' : List Slice) → rest ≡ d ∷ rest'
        → ((s : S) → step s i d ≡ s) → y ≡ x
        → Keeps x all i rest → Keeps y all (i + 1) rest'
    keeps_past x y all i d rest rest' next same = keeps_turn x y all i d rest rest' next (λ z. z) (λ s. ap keep (sym (same s)))

    pub keeps_rest : (x : A) (all : S) (i : ℕ) (rest : List Slice) → ((d : Slice) → In d rest → (s : S) (n : ℕ) → step s n d ≡ s)
        → Keeps x all i rest → x ≡ keep all
    keeps_rest x all i rest same (s, p, a) = p ∙ ap keep (sym (a ∙ pass_none i s rest (λ d m. same d m s)))

    pub keeps_end : (x : A) (all : S) (i : ℕ) (rest : List Slice) → rest ≡ [] → Keeps x all i rest → x ≡ keep all
    keeps_end x all i rest e (s, p, a) = p ∙ ap keep (sym (a ∙ ap (pass_from step s i) e))

-- ---- one slice more: what is kept of it is what is kept of what the pass makes of it
module _ (f : Slice → Bool) (q i : ℕ) (d : Slice) (e : f d ≡ true) where
  abbrev passed : Slice → Bool
  passed s = f s && tells q s

  pub mark_turn : (o : Option Placed) → later_of (tells q d) (mark_of i d) (mark_due o) ≡ mark_due (latest_with later_turn passed o i d)
  unfolding later_of
  mark_turn none = rw e (by-test (tells q d) (λ y. rw y) (λ y. rw y))
  mark_turn (some b) =
      let z : eqb (b.place + 1) 0 ≡ false = omega tests in
      rw (e, z) (by-test (tells q d) (λ y. rw y (by-test (later_turn b.slice d) (λ z. rw z) (λ z. rw z))) (λ y. rw y))

  pub place_turn : (o : Option Placed)
      → cond (tells q d) (i + 1) (place_and_one o) ≡ place_and_one (latest_with (λ a b. true) passed o i d)
  place_turn none = rw e (by-test (tells q d) (λ y. rw y) (λ y. rw y))
  place_turn (some b) = rw e (by-test (tells q d) (λ y. rw y) (λ y. rw y))

-- one that does not pass changes nothing
pub latest_past : (later : Slice → Slice → Bool) (test : Slice → Bool) (i : ℕ) (d : Slice) → test d ≡ false → (o : Option Placed)
    → latest_with later test o i d ≡ o
latest_past later test i d n none = rw n
latest_past later test i d n (some b) = rw n

pub tally_past : (test : Slice → Bool) (i : ℕ) (d : Slice) → test d ≡ false → (few : Few) → tally_with test few i d ≡ few
tally_past test i d n few = rw n

pub tally_turn : (test : Slice → Bool) (i : ℕ) (d : Slice) → test d ≡ true → (few : Few) → one_more i few ≡ tally_with test few i d
tally_turn test i d y few = rw y
