-- The walk from one change instant to the next, and the records of those behind it. Assumes nothing.
use Prim.Native.Nat.{ℕ, suc, ◌+◌, ◌≤◌, ◌<◌}
use mathlib.Core.Path.{◌≡◌, sym, ap, ◌∙◌}
use mathlib.Core.List.{List, [], ◌∷◌, ◌++◌, map, append_assoc, append-nil}
use mathlib.Core.Bool.{true, false}
use mathlib.Core.Logic.{⊎_elim}
use native.Mathlib.Omega.{arith}
use lib.ListN.{length, length-append}
use Rattle.laws.specs.Lists.{any}
use Rattle.laws.specs.Keyed.{In}
use Rattle.laws.proofs.Tests.{tests}
use Rattle.numbers.specs.Numbers.{no_instant, is_none}
use Rattle.numbers.specs.declared.Instant.{Instant}
use Rattle.numbers.proofs.Facts.{none_false}
use Rattle.table.specs.Header.{stride_of}
use Rattle.history.specs.State.{State}
use Rattle.history.specs.Permanent.{refuses, known, permanent_at}
use Rattle.history.specs.Changes.{change_instants, next_of}
use Rattle.history.specs.Derived.{has_two, two_anchors, stretches_from, stretches, numbered_from, derived_baselines}
use Rattle.history.proofs.Changes.{Bounded, later, just_after, later_next, walk_all, walk_on, walk_below, walk_end, walk-next}
use Rattle.state.specs.Written.{nil_unknown}
use Rattle.state.specs.Asking.{slices_of}
use Rattle.baselines.specs.Laid.{record_for}
use Rattle.baselines.specs.Deriving.{derived_records}
use Rattle.baselines.specs.Steps.{drawn_record}

module _ (p : List ℕ) where
  -- the records of some change instants, the first with a sequence number
  abbrev pub drawn_from : ℕ → List Instant → List (List ℕ)
  drawn_from n ts = map (record_for (stride_of p)) (numbered_from (nil_unknown (stride_of p)) n (stretches_from (slices_of p) ts))

  -- the walk has come to an instant, and the records before it are done
  pub record Walked (t : Instant) (done : List (List ℕ)) : Type 0 where
    pub since : Instant
    pub here : t ≡ next_of (later (slices_of p) since)
    pub all : derived_records p ≡ done ++ drawn_from (suc (length done)) (later (slices_of p) since)
    pub two : two_anchors (slices_of p) ≡ any (λ u. has_two (permanent_at u (slices_of p))) (later (slices_of p) since)
    pub most : length done ≤ t.0
    pub below : t.0 ≤ no_instant

  module _ (low : Bounded (slices_of p)) where
    pub walked_none : (t : Instant) → t ≡ next_of (later (slices_of p) (record { 0 = 0 })) → Walked t []
    unfolding derived_records derived_baselines stretches two_anchors
    walked_none t e =
        let w = walk_all (slices_of p) in
        record {
          since = record { 0 = 0 };
          here = e;
          all = ap (drawn_from 1) (sym w);
          two = ap (any (λ u. has_two (permanent_at u (slices_of p)))) (sym w);
          most = omega arith;
          below = rw e (walk_below (slices_of p) (record { 0 = 0 }) low);
        }

    -- ---- one turn, where the walk has not ended
    module _ {t : Instant} {done : List (List ℕ)} (w : Walked t done) (go : is_none t ≡ false) where
      ahead : later (slices_of p) w.since ≡ t ∷ later (slices_of p) (just_after t)
      ahead =
          walk-next (slices_of p) w.since (rw (← w.here) go)
          ∙ ap (λ (u : Instant). u ∷ later (slices_of p) (just_after u)) (sym w.here)

      pub walked_given : t.0 < no_instant
      walked_given = let n = none_false t go in omega (tests, w.below)

      -- it is a change instant
      pub walked_in : In t (change_instants (slices_of p))
      walked_in =
          ⊎_elim (λ e. absurd (none_false t go (ap (λ i. i.0) (w.here ∙ e))))
          (λ (m, _). rw w.here m) (later_next (slices_of p) w.since)

      module _ {end : Instant} (e : end ≡ next_of (later (slices_of p) (just_after t))) where
        pub walked_on : (t.0 + 1 ≤ end.0) × (end.0 ≤ no_instant)
        walked_on = (
          rw e (walk_on (slices_of p) (just_after t) (omega (tests, walked_given))),
          rw e (walk_below (slices_of p) (just_after t) low),
        )

        -- no record is of it
        pub walked_past : (k : ℕ) → permanent_at t (slices_of p) ≡ refuses k → has_two (refuses k) ≡ false → Walked end done
        walked_past k v n = record {
          since = just_after t;
          here = e;
          all = w.all ∙ ap (λ (l : List (List ℕ)). done ++ l) (ap (drawn_from (suc (length done))) ahead ∙ gone (suc (length
              done)));
          two = w.two ∙ ap (any (λ u. has_two (permanent_at u (slices_of p)))) ahead ∙ rw (v, n);
          most = omega (arith, w.most, walked_on.0);
          below = walked_on.1;
        }
          where
            gone : (n : ℕ) → drawn_from n (t ∷ later (slices_of p) (just_after t)) ≡ drawn_from n (later (slices_of p) (just_after t))
            gone n = rw v

        -- one is
        pub walked_more : (s : State) → permanent_at t (slices_of p) ≡ known s
            → Walked end (done ++ (drawn_record (stride_of p) (suc (length done)) t end s ∷ []))
        unfolding drawn_record
        walked_more s v =
            let r = drawn_record (stride_of p) (suc (length done)) t end s in
            let n : length (done ++ (r ∷ [])) ≡ suc (length done) = length-append done (r ∷ []) ∙ omega arith in
            record {
              since = just_after t;
              here = e;
              all = w.all ∙ ap (λ (l : List (List ℕ)). done ++ l) (ap (drawn_from (suc (length done))) ahead ∙ one)
                  ∙ sym (append_assoc done (r ∷ []) _)
                  ∙ ap (λ (m : ℕ). (done ++ (r ∷ [])) ++ drawn_from (suc m) (later (slices_of p) (just_after t))) (sym n);
              two = w.two ∙ ap (any (λ u. has_two (permanent_at u (slices_of p)))) ahead ∙ rw v;
              most = omega (arith, w.most, walked_on.0);
              below = walked_on.1;
            }
          where
            one : drawn_from (suc (length done)) (t ∷ later (slices_of p) (just_after t))
                ≡ drawn_record (stride_of p) (suc (length done)) t end s
                ∷ drawn_from (suc (suc (length done))) (later (slices_of p) (just_after t))
            one = rw (v, ← e)

  -- ---- the end of the walk
  pub walked_all : {t : Instant} {done : List (List ℕ)} → Walked t done → is_none t ≡ true
      → (derived_records p ≡ done) × (two_anchors (slices_of p) ≡ false)
  walked_all {t} {done} w e =
      let none : later (slices_of p) w.since ≡ [] = walk_end (slices_of p) w.since (rw (← w.here) e) in (
        w.all ∙ ap (λ (l : List Instant). done ++ drawn_from (suc (length done)) l) none ∙ append-nil done,
        w.two ∙ ap (any (λ u. has_two (permanent_at u (slices_of p)))) none,
      )
