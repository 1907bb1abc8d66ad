-- The last slice that passes a test, as it is found from the end: how many slices were looked at, and that a pass from the front
-- finds the same one. Assumes nothing.
use Prim.Native.Nat.{ℕ, zero, suc, ◌+◌, ◌≤◌, ◌<◌}
use mathlib.Core.Path.{◌≡◌, refl, sym, ap, ◌∙◌, fun_ext}
use mathlib.Core.List.{List, [], ◌∷◌, reverse_aux}
use mathlib.Core.Bool.{Bool, true, false, ◌&&◌, or-true}
use mathlib.Core.Logic.{⊎_elim}
use mathlib.Core.Option.{Option, none, some}
use native.Mathlib.Omega.{arith}
use lib.ListN.{length, drop, length-drop}
use Rattle.laws.specs.Lists.{any, first, kept}
use Rattle.laws.proofs.Tests.{by-test, contrary, never, and_both, or_either, or_neither}
use Rattle.numbers.specs.declared.Instant.{Instant}
use Rattle.slice.specs.Record.{Slice}
use Rattle.history.specs.Snapshot.{valid}
use Rattle.history.specs.Source.{mentions}
use Rattle.history.specs.Reach.{reaches}
use Rattle.history.specs.Touched.{touches, looked}
use Rattle.history.specs.Parts.{tells, Placed, at, latest_with, latest_from, latest_valid}
use Rattle.history.proofs.Parts.{tells_mentions}
use Rattle.history.proofs.Reach.{valid_reaches}

module _ (test : Slice → Bool) where
  -- the last that passes stands at place j: none behind it does
  pub record LastAt (slices : List Slice) (j : ℕ) : Type 0 where
    pub here : Slice
    pub behind : List Slice
    pub there : drop j slices ≡ here ∷ behind
    pub passes : test here ≡ true
    pub quiet : any test behind ≡ false

  -- where none passes, a pass finds what was so far
  latest_none : (l : List Slice) (v : Option Placed) (i : ℕ) → any test l ≡ false → latest_from (λ a b. true) test v i l ≡ v
  latest_none [] v i q = refl
  latest_none (x ∷ l) v i q =
      let (n, m) = or_neither (test x) (any test l) q in
      ap (λ w. latest_from (λ a b. true) test w (suc i) l) (past v n) ∙ latest_none l v (suc i) m
    where
      past : (v : Option Placed) → test x ≡ false → latest_with (λ a b. true) test v i x ≡ v
      past none n = rw n
      past (some b) n = rw n

  -- ---- from the end
  first_past : (l r : List Slice) → any test l ≡ false → first test (reverse_aux l r) ≡ length l + first test r
  first_past [] r q = omega arith
  first_past (x ∷ l) r q =
      let (n, m) = or_neither (test x) (any test l) q in
      first_past l (x ∷ r) m ∙ rw n (omega arith)

  module _ (d : Slice) (ds : List Slice) (y : test d ≡ true) (q : any test ds ≡ false) where
    first_here : (j : ℕ) (l r : List Slice) → drop j l ≡ d ∷ ds → first test (reverse_aux l r) ≡ length ds
    first_here zero l r e = ap (λ (l : List Slice). first test (reverse_aux l r)) e ∙ first_past ds (d ∷ r) q ∙ rw y (omega arith)
    first_here (suc j) [] r e = absurd (omega (arith, ap length e))
    first_here (suc j) (x ∷ l) r e = first_here j l (x ∷ r) e

    any_here : (j : ℕ) (l : List Slice) → drop j l ≡ d ∷ ds → any test l ≡ true
    any_here zero l e = ap (any test) e ∙ rw y
    any_here (suc j) [] e = absurd (omega (arith, ap length e))
    any_here (suc j) (x ∷ l) e = rw (any_here j l e) (or-true (test x))

    -- a pass from the front that takes each that comes finds it last
    latest_here : (v : Option Placed) (i j : ℕ) (l : List Slice) → drop j l ≡ d ∷ ds
        → latest_from (λ a b. true) test v i l ≡ some (at (i + j) d)
    latest_here v i zero l e =
        let k : i ≡ i + 0 = omega arith in
        ap (latest_from (λ a b. true) test v i) e
        ∙ ap (λ w. latest_from (λ a b. true) test w (suc i) ds) (taken v)
        ∙ latest_none ds (some (at i d)) (suc i) q
        ∙ ap (λ i. some (at i d)) k
      where
        taken : (v : Option Placed) → latest_with (λ a b. true) test v i d ≡ some (at i d)
        taken none = rw y
        taken (some b) = rw y
    latest_here v i (suc j) [] e = absurd (omega (arith, ap length e))
    latest_here v i (suc j) (x ∷ l) e =
        let k : suc i + j ≡ i + suc j = omega arith in
        latest_here (latest_with (λ a b. true) test v i x) (suc i) j l e ∙ ap (λ i. some (at i d)) k

  -- ---- where some passes, the last that does stands at a place
  last_there : (l : List Slice) → any test l ≡ true → (j : ℕ) × LastAt l j
  last_there [] h = contrary h refl
  last_there (x ∷ l) h =
      by-test (any test l)
      (λ y. let (j, s) = last_there l y in
      (suc j, record { here = s.here; behind = s.behind; there = s.there; passes = s.passes; quiet = s.quiet }))
      (λ n. let y = ⊎_elim (λ y. y) (λ y. contrary y n) (or_either (test x) (any test l) h) in
      (0, record { here = x; behind = l; there = refl; passes = y; quiet = n }))

  module _ (l : List Slice) where
    module _ (j : ℕ) (s : LastAt l j) where
      pub last_any : any test l ≡ true
      last_any = any_here s.here s.behind s.passes s.quiet j l s.there

      pub last_looked : looked test l + j ≡ length l
      unfolding looked
      last_looked =
          rw (last_any, first_here s.here s.behind s.passes s.quiet j l [] s.there)
          (omega (arith, length-drop j l, ap length s.there))

    pub none_looked : any test l ≡ false → looked test l ≡ length l
    unfolding looked
    none_looked n = rw n

    pub looked_most : looked test l ≤ length l
    looked_most =
        by-test (any test l) (λ y. let (j, s) = last_there l y in omega (arith, last_looked j s))
        (λ n. omega (arith, none_looked n))

-- ---- the slice that touches a property last, by a pass from the front
module _ (t : Instant) (n : ℕ) (h : n < 8) (l : List Slice) where
  touches_tells : touches t n ≡ (λ d. valid t d && tells n d)
  unfolding touches
  touches_tells = fun_ext (λ d. ap (λ b. valid t d && b) (sym (tells_mentions n d h)))

  -- none does
  pub untouched_latest : any (touches t n) l ≡ false → latest_valid n t l ≡ none
  unfolding latest_valid
  untouched_latest q = ap (λ f. latest_from (λ a b. true) f none 0 l) (sym touches_tells) ∙ latest_none (touches t n) l none 0 q

  -- one does, at the place at which a walk from the end stops
  pub touched_latest : any (touches t n) l ≡ true
      → (b : Placed) × (latest_valid n t l ≡ some b) × (looked (touches t n) l + b.place ≡ length l)
  unfolding latest_valid
  touched_latest y =
      let (j, s) = last_there (touches t n) l y in
      let k : 0 + j ≡ j = omega arith in (
        at j s.here,
        ap (λ f. latest_from (λ a b. true) f none 0 l) (sym touches_tells)
            ∙ latest_here (touches t n) s.here s.behind s.passes s.quiet none 0 j l s.there
            ∙ ap (λ i. some (at i s.here)) k,
        last_looked (touches t n) l j s,
      )

-- ---- what touches at t has t in its reach
any_kept : (f g : Slice → Bool) (l : List Slice) → ((x : Slice) → f x ≡ true → g x ≡ true) → any f (kept g l) ≡ any f l
any_kept f g [] h = refl
any_kept f g (x ∷ l) h =
    let e = any_kept f g l h in
    by-test (g x) (λ t. rw (t, e)) (λ n. rw (n, never (f x) (λ t. contrary (h x t) n)) e)

-- so whether any slice does goes by those in reach alone
pub touched_near : (t : Instant) (n : ℕ) (l : List Slice) → any (touches t n) (kept (reaches t) l) ≡ any (touches t n) l
unfolding touches
touched_near t n l = any_kept (touches t n) (reaches t) l (λ d y. valid_reaches t d (and_both (valid t d) (mentions n d) y).0)
