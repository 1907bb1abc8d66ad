-- What is kept of a list, and what is in lists one behind the other. Assumes nothing.
use Prim.Native.Nat.{ℕ, zero, suc, ◌<◌}
use mathlib.Core.Path.{◌≡◌, refl, sym, ap, ◌∙◌}
use mathlib.Core.List.{List, [], ◌∷◌, ◌++◌, map}
use mathlib.Core.Bool.{Bool, true, false, ◌&&◌}
use mathlib.Core.Logic.{◌⊎◌, inl, inr, ⊎_elim, ◌↔◌}
use native.Mathlib.Omega.{arith}
use lib.ListN.{length, get_or}
use Rattle.laws.specs.Lists.{kept, joined}
use Rattle.laws.specs.Keyed.{In, Rising}
use Rattle.laws.proofs.Tests.{pick_ind, by-test}
use Rattle.laws.proofs.Lists.{kept_in, in_at}

-- ---- joined tests, the second looked at where the first holds
pub and_under : (a : Bool) {b c : Bool} → (a ≡ true → b ≡ c) → (a && b) ≡ (a && c)
and_under true h = h refl
and_under false h = refl

-- ---- what is kept
module _ {A : Type 0} where
  -- the same by tests that tell the same of each element
  pub kept_same : (f g : A → Bool) (l : List A) → ((x : A) → In x l → f x ≡ g x) → kept f l ≡ kept g l
  kept_same f g [] h = refl
  kept_same f g (x ∷ l) h = rw (h x (inl refl), kept_same f g l (λ y m. h y (inr m)))

  pub kept_none : (f : A → Bool) (l : List A) → ((x : A) → In x l → f x ≡ false) → kept f l ≡ []
  kept_none f [] h = refl
  kept_none f (x ∷ l) h = rw (h x (inl refl)) (kept_none f l (λ y m. h y (inr m)))

  pub kept_append : (f : A → Bool) (l k : List A) → kept f (l ++ k) ≡ kept f l ++ kept f k
  kept_append f [] k = refl
  kept_append f (x ∷ l) k = by-test (f x) (λ t. rw (t, kept_append f l k)) (λ n. rw (n, kept_append f l k))

-- by the places that pass
module _ {A : Type 0} (f : A → Bool) (d : A) where
  -- no place passes
  pub kept_nowhere : (l : List A) → ((j : ℕ) → j < length l → f (get_or l j d) ≡ false) → kept f l ≡ []
  kept_nowhere l h = kept_none f l (λ x m. let (j, k, e) = in_at l x d m in ap f (sym e) ∙ h j k)

  -- one place alone passes
  pub kept_one : (l : List A) (i : ℕ) → i < length l → f (get_or l i d) ≡ true
      → ((j : ℕ) → j < length l → (j ≡ i → ⊥) → f (get_or l j d) ≡ false)
      → kept f l ≡ get_or l i d ∷ []
  kept_one [] i h y others = absurd (omega arith)
  kept_one (x ∷ xs) zero h y others =
      rw y (ap (λ (l : List A). x ∷ l) (kept_nowhere xs (λ j k. others (suc j) (omega arith) (λ e. omega arith))))
  kept_one (x ∷ xs) (suc i) h y others =
      rw (others 0 (omega arith) (λ e. omega arith))
      (kept_one xs i (omega arith) y (λ j k n. others (suc j) (omega arith) (λ e. n (omega arith))))

-- what is kept of a rising list rises
pub kept_rising : {R K : Type 0} (key : R → K) (less same : K → K → Bool) (f : R → Bool) (l : List R) → Rising key less same l
    → Rising key less same (kept f l)
kept_rising key less same f [] up = tt
kept_rising key less same f (x ∷ l) (low, up) =
    pick_ind (Rising key less same) (f x) (λ _. (λ y m. low y ((kept_in f l y).0 m).0, kept_rising key less same f l up))
    (λ _. kept_rising key less same f l up)

-- ---- one list behind another
module _ {A : Type 0} where
  pub append_in : (l k : List A) (x : A) → In x (l ++ k) ↔ (In x l ⊎ In x k)
  append_in [] k x = (inr, ⊎_elim (λ m. absurd m) (λ m. m))
  append_in (y ∷ l) k x = (
    ⊎_elim (λ e. inl (inl e)) (λ m. ⊎_elim (λ n. inl (inr n)) inr ((append_in l k x).0 m)),
    ⊎_elim (⊎_elim inl (λ m. inr ((append_in l k x).1 (inl m)))) (λ m. inr ((append_in l k x).1 (inr m))),
  )

-- what is in the images of a list, joined
module _ {A B : Type 0} (f : A → List B) where
  pub joined_in : (l : List A) (x : B) → In x (joined (map f l)) ↔ ((a : A) × In a l × In x (f a))
  joined_in [] x = (λ m. absurd m, λ m. m.1)
  joined_in (a ∷ l) x = (
    λ m. ⊎_elim (λ n. (a, inl refl, n)) (λ n. let (b, i, j) = (joined_in l x).0 n in (b, inr i, j))
        ((append_in (f a) (joined (map f l)) x).0 m),
    λ (b, i, j). (append_in (f a) (joined (map f l)) x).1 (⊎_elim (λ e. inl (rw e at j)) (λ n. inr ((joined_in l x).1 (b, n, j))) i),
  )
