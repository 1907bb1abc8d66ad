-- What a sweep tells from times alone is what it tells of the slices; both of its lines behind one more slice. Assumes nothing.
use Prim.Native.Nat.{ℕ, suc, ◌+◌, ◌≤◌, ◌<◌, zero}
use mathlib.Core.Path.{◌≡◌, refl, sym, ap, ◌∙◌, subst}
use mathlib.Core.Bool.{Bool, true, false, cond, not, ◌&&◌, ◌||◌}
use mathlib.Core.List.{List, [], ◌∷◌}
use mathlib.Core.Logic.{⊎_elim}
use native.Mathlib.Omega.{arith}
use lib.ListN.{length, replicate}
use lib.Dec.{eqb, ltb}
use borrow.Author.Tests.{eqb-true}
use Rattle.laws.proofs.Tests.{tests, by-test, and_both, pick_ind, or_either}
use Rattle.numbers.specs.Numbers.{no_instant, is_none, given, before, same_instant, none}
use Rattle.numbers.specs.declared.Instant.{Instant}
use Rattle.slice.specs.Record.{baseline, kind_of, period_of, life_of, Slice, view_of, permdelta, Property, unmentioned}
use Rattle.history.specs.State.{State, started, new_time, applied, over}
use Rattle.history.specs.Permanent.{refuses, known}
use Rattle.history.specs.Derived.{has_two}
use Rattle.history.specs.Sweep.{Seen, meets, begun, changed, seen, tells_two, tells, tells_next, is_counted}
use Rattle.history.proofs.Line.{unless_known, unless_gone}
use Rattle.history.specs.Counted.{counts}
use Rattle.history.proofs.Parts.{newer_unmentioned}
use Rattle.baselines.specs.Sweeping.{times_of, begun_with, changed_with, passed_with, is_known, is_two, next_with}
use Rattle.baselines.specs.Carried.{line_now, seen_with, Carries, record_of, Turns, unknown_state, Lines}

-- ---- one more slice
ended : (b : Bool) (s u : State) → cond b s.life.end u.life.end ≡ (cond b s u).life.end
ended true s u = refl
ended false s u = refl

one_more_lem : (b : Bool) (n : ℕ) → n + cond b 0 1 ≡ cond (not b) (suc n) n
one_more_lem true n = omega tests
one_more_lem false n = omega tests

pub pass_told : (stride : ℕ) (v : Seen) (r : List ℕ) (t : Instant) → (view_of stride r).period.begin ≡ t
    → passed_with (times_of v) r t ≡ times_of (seen_with v (view_of stride r))
unfolding passed_with begun_with changed_with begun changed applied view_of
pass_told stride v r t e =
    by-test (eqb (kind_of r) baseline)
    (λ k. rw k (λ i. record {
      begin = sym e i;
      end = (period_of r).end;
      gone = (life_of r).end;
      left = v.line.life.end;
      openings = v.openings;
      two = v.two || meets v.begin v.end (sym e i);
    }))
    (λ k. rw k (λ i. record {
      begin = v.begin;
      end = v.end;
      gone = (ap (λ (u : Instant). cond (same_instant v.begin u) v.base.life.end (new_time (life_of r).end v.base.life.end)) (sym e)
          ∙ ended (same_instant v.begin (period_of r).begin) v.base (applied v.base (view_of stride r))) i;
      left = ended (eqb v.openings 0) (started (view_of stride r)) (applied v.line (view_of stride r)) i;
      openings = one_more_lem (is_none (life_of r).begin) v.openings i;
      two = v.two;
    }))

pub openings_few : (xs : List Slice) → (seen xs).openings ≤ length xs
unfolding begun changed
openings_few [] = omega tests
openings_few (x ∷ xs) =
    let few = openings_few xs in
    by-test (eqb x.kind baseline) (λ k. rw k (omega tests))
    (λ k. rw k (by-test (given x.life.begin) (λ g. rw g (omega tests)) (λ g. rw g (omega tests))))

-- ---- what it tells of an instant
pub two_times : (v : Seen) (t : Instant) → is_two (times_of v) t ≡ tells_two v t
unfolding is_two tells_two
two_times v t = refl

choose : (a b : Bool) (x y : Instant) → cond (a && not b) x y ≡ cond a (cond b y x) y
choose true true x y = refl
choose true false x y = refl
choose false b x y = refl

pub next_times : (v : Seen) (t next : Instant) → next_with (times_of v) t next ≡ tells_next v t next
unfolding next_with tells_next
next_times v t next = choose (before t v.end) (before next v.end) v.end next

module _ (v : Seen) (t : Instant) where
  pub known_told : is_known (times_of v) t ≡ true → tells v t ≡ known (cond (before t v.end) v.base v.line)
  unfolding is_known tells
  known_told h =
      by-test (before t v.end) (λ b. rw b (unless_known t v.base (rw b at h)))
      (λ b. let (o, k) = and_both (eqb v.openings 1) (before t v.line.life.end) (rw b at h) in
      rw (b, o) (unless_known t v.line k))

  pub unknown_told : t.0 < no_instant → is_known (times_of v) t ≡ false
      → (k : ℕ) × (tells v t ≡ refuses k) × (has_two (refuses k) ≡ false)
  unfolding is_known tells
  unknown_told l h =
      by-test (before t v.end) (λ b. (22, rw b (unless_gone t v.base l (rw b at h)), refl))
      (λ b. by-test (eqb v.openings 1)
      (λ o. (22, rw (b, o) (unless_gone t v.line l (rw (b, o) at h)), refl))
      (λ o. (20, rw (b, o), refl)))

  -- where it is that of the opening, one has opened
  pub known_line : is_known (times_of v) t ≡ true → before t v.end ≡ false → line_now v ≡ v.line
  unfolding is_known
  known_line h b =
      let (o, _) = and_both (eqb v.openings 1) (before t v.line.life.end) (rw b at h) in
      let n : eqb v.openings 0 ≡ false = omega tests in
      rw n

-- ---- a slice that opens, applied to the unknown: it starts its own state
over_unknown : (n : ℕ) (vs : List Property) → length vs ≡ n → over vs (replicate n unmentioned) ≡ vs
over_unknown zero [] e = refl
over_unknown zero (v ∷ vs) e = absurd (omega arith)
over_unknown (suc n) [] e = absurd (omega arith)
over_unknown (suc n) (v ∷ vs) e = λ i. newer_unmentioned v i ∷ over_unknown n vs (omega arith) i

time_unknown : (t : Instant) → new_time t none ≡ t
unfolding new_time is_none
time_unknown t = go (eqb t.0 none.0) refl
  where
    go : (b : Bool) → eqb t.0 none.0 ≡ b → cond b none t ≡ t
    go true e = λ i. record { 0 = sym (eqb-true t.0 none.0 e) i }
    go false e = refl

applied_unknown : (x : Slice) → length x.properties ≡ 8 → applied unknown_state x ≡ started x
unfolding applied
applied_unknown x e = λ i. record {
  life = record { begin = time_unknown x.life.begin i; end = time_unknown x.life.end i };
  properties = over_unknown 8 x.properties e i;
}

flip : (b : Bool) (s u : State) → cond (not b) s u ≡ cond b u s
flip true s u = refl
flip false s u = refl

-- the line of the first opening, by how many have opened and whether the slice opens
opened_on : (x : Slice) → length x.properties ≡ 8 → (n : ℕ) (b : Bool) (l : State) → let now = cond (eqb n 0) unknown_state l in
    cond (ltb 0 n || b) (applied now x) now
    ≡ cond (eqb (cond b (suc n) n) 0) unknown_state (cond (eqb n 0) (started x) (applied l x))
opened_on x k zero true l = applied_unknown x k
opened_on x k zero false l = refl
opened_on x k (suc n) b l =
    let more : ltb 0 (suc n) ≡ true = omega tests in
    let some : eqb (suc n) 0 ≡ false = omega tests in
    let still : eqb (cond b (suc (suc n)) (suc n)) 0 ≡ false =
    pick_ind (λ (m : ℕ). eqb m 0 ≡ false) b (λ _. omega tests) (λ _. some) in
    rw (more, some, still)

module _ (stride : ℕ) (v : Seen) (x : Slice) where
  -- ---- a BASELINE: its own line, and the other as it was
  counted_base : is_counted x ≡ true → eqb x.kind baseline ≡ true → counts baseline x ≡ true
  unfolding is_counted counts
  counted_base c k =
      ⊎_elim (λ e. e) (λ e. let q = (and_both (eqb x.kind permdelta) (not x.cancelled) e).0 in absurd (omega tests))
      (or_either (counts baseline x) (counts permdelta x) c)

  pub lines_begun : (t : Instant) (base line r : List ℕ) → eqb x.kind baseline ≡ true → is_counted x ≡ true
      → (counts baseline x ≡ true → Carries stride (started x) (record_of stride r))
      → Lines stride v t base line → Lines stride (seen_with v x) t r line
  unfolding begun
  lines_begun t base line r k c h l = rw k record { based = λ _. h (counted_base c k); opened = l.opened }

  -- ---- a PERMDELTA: the line of the BASELINE that holds, unless it begins there too, and that of the first opening, which it may
  -- be
  pub lines_changed : {t : Instant} {base line base' line' : List ℕ} {goes opens : Bool} → eqb x.kind baseline ≡ false
      → x.period.begin ≡ t → length x.properties ≡ 8
      → goes ≡ (before t v.end && not (same_instant v.begin t)) → Turns stride (λ s. cond goes (applied s x) s) base base'
      → opens ≡ (ltb 0 v.openings || given x.life.begin) → Turns stride (λ s. cond opens (applied s x) s) line line'
      → Lines stride v t base line → Lines stride (seen_with v x) t base' line'
  unfolding changed
  lines_changed {t} {base' = base'} {line' = line'} k same n e f q g l = rw k record {
    based = λ b. subst (λ (s : State). Carries stride s (record_of stride base'))
        (rw (e, b, ← same) (flip (same_instant v.begin x.period.begin) (applied v.base x) v.base))
        (f v.base (l.based b));
    opened = subst (λ (s : State). Carries stride s (record_of stride line'))
        (rw q (opened_on x n v.openings (given x.life.begin) v.line)) (g (line_now v) l.opened);
  }
