-- One turn of a sweep, by the times that it carries: an event is passed, or a change instant is done. Assumes nothing.
use Prim.Native.Nat.{ℕ, suc, ◌+◌, ◌*◌, ◌≤◌, ◌<◌}
use mathlib.Core.Path.{◌≡◌, refl, sym, ap, ◌∙◌, subst}
use mathlib.Core.Bool.{Bool, true, false, cond, not, ◌&&◌}
use mathlib.Core.List.{List, [], ◌∷◌, ◌++◌}
use mathlib.Core.Logic.{inl}
use native.Mathlib.Omega.{arith}
use lib.ListN.{length, drop, get_or, length-append, drop_of_length-le}
use lib.Dec.{ltb}
use borrow.Author.Tests.{not-true}
use Rattle.laws.specs.Lists.{joined}
use Rattle.laws.proofs.Tests.{tests, pick_ind, by-test, and_both}
use Rattle.laws.proofs.Pieces.{joined_length}
use Rattle.octets.specs.Bytes.{Bytes}
use Rattle.numbers.specs.Numbers.{no_instant, is_none, before, same_instant}
use Rattle.numbers.specs.declared.Instant.{Instant}
use Rattle.numbers.proofs.Facts.{none_false, same_true}
use Rattle.events.specs.Order.{place_of, in_order}
use Rattle.slice.specs.Record.{record_size, Slice, view_of}
use Rattle.std.specs.Prelude.{Ok}
use Rattle.table.specs.Header.{count_of, stride_of, record_at}
use Rattle.table.specs.Rules.{check_table}
use Rattle.table.specs.declared.check.Sides.TheVariants.{Permanent}
use Rattle.table.proofs.Sound.{sound_table}
use Rattle.history.specs.State.{State}
use Rattle.history.specs.Changes.{next_of}
use Rattle.history.specs.Derived.{two_anchors}
use Rattle.history.specs.Sweep.{nothing, seen, tells_two, is_counted}
use Rattle.history.proofs.Changes.{Bounded, later, just_after}
use Rattle.history.proofs.Selection.{append_in}
use Rattle.state.specs.Asking.{slices_of}
use Rattle.state.proofs.Walks.{size_at}
use Rattle.baselines.specs.Noting.{noted, head_of}
use Rattle.baselines.specs.Sweeping.{times_of, passed_with, is_known, is_two, next_with}
use Rattle.baselines.specs.Carried.{Comes}
use Rattle.baselines.specs.Deriving.{derived_records}
use Rattle.baselines.specs.Steps.{drawn_record}
use Rattle.baselines.specs.declared.sweeping.Sweep.{Sweep}
use Rattle.baselines.proofs.Noted.{slices_bounded, slice_at}
use Rattle.baselines.proofs.Events.{Eventful, eventful}
use Rattle.baselines.proofs.Swept.{Run, first_here, run_start, run_on, record_here, run_record, run_gone, two_here}
use Rattle.baselines.proofs.Swept.{state_here, next_here}
use Rattle.baselines.proofs.Lines.{pass_told, openings_few, two_times, next_times, known_told, unknown_told}
use Rattle.baselines.proofs.Walked.{drawn_from, Walked, walked_none, walked_given, walked_in, walked_on, walked_past}
use Rattle.baselines.proofs.Walked.{walked_more, walked_all}
use Rattle.baselines.proofs.Carried.{carry_base}
use Rattle.baselines.proofs.Passes.{derived_sized}

-- a sweep is at an event and an instant: it has passed some slices, and its times are those of what it has seen; the records of
-- the change instants before are done, and counted
pub record Going (p E : List ℕ) (s : Sweep) (at : ℕ) (t : Instant) (count : ℕ) (xs : List Slice) (done : List (List ℕ)) : Type 0
  where
    pub run : Run p E at t xs
    pub told : s ≡ times_of (seen xs)
    pub few : length xs ≤ at
    pub within : at ≤ length E
    pub walked : Walked p t done
    pub counted : count ≡ length done

-- a turn: the next event, and whether it is of the instant
pub record Turn (E : List ℕ) (at : ℕ) (t next : Instant) (same : Bool) : Type 0 where
  pub go : is_none t ≡ false
  pub ahead : next ≡ head_of (drop at E)
  pub is : same ≡ same_instant next t

-- the state that is known at t
abbrev pub state_at : List Slice → Instant → State
state_at xs t = cond (before t (seen xs).end) (seen xs).base (seen xs).line

-- the next change instant comes no later than the next event
next_most : (s : Sweep) (t next : Instant) → (next_with s t next).0 ≤ next.0
unfolding next_with before
next_most s t next =
    pick_ind (λ (u : Instant). u.0 ≤ next.0) (before t s.end && not (before next s.end))
    (λ b. let n = not-true (ltb next.0 s.end.0) (and_both (before t s.end) (not (before next s.end)) b).1 in omega
    tests)
    (λ _. omega tests)

pub going_start : {p E : List ℕ} → Bytes p → check_table Permanent p ≡ Ok tt → E ≡ in_order (noted (slices_of p)) → {t : Instant}
    → t ≡ head_of E → {s : Sweep} → s ≡ times_of nothing → Going p E s 0 t 0 [] []
going_start {p} {E} bytes sound are e k =
    let evs = subst (Eventful p) (sym are) (eventful p bytes sound) in
    rw (e, k) (record {
      run = run_start evs;
      told = refl;
      few = omega arith;
      within = omega arith;
      walked = walked_none p (slices_bounded p bytes) (head_of E) (first_here evs);
      counted = refl;
    })

module _ {p E : List ℕ} {s : Sweep} {at : ℕ} {t : Instant} {count : ℕ} {xs : List Slice} {done : List (List ℕ)}
    (g : Going p E s at t count xs done) where
  abbrev evs : Eventful p E
  evs = g.run.evs

  low : Bounded (slices_of p)
  low = slices_bounded p evs.bytes

  pub going_few : s.openings ≤ 512
  going_few = let o = ap (λ z. z.openings) g.told in omega (arith, openings_few xs, g.few, g.within, evs.few)

  -- the records that are done are the first of all
  pub going_drawn : (count ≤ length (derived_records p)) × (length (joined done) ≡ count * record_size (stride_of p))
  going_drawn =
      let rest = drawn_from p (suc (length done)) (later (slices_of p) g.walked.since) in (
        omega (arith, g.counted, ap length g.walked.all, length-append done rest),
        joined_length (record_size (stride_of p)) done
            (λ l m. derived_sized p evs.bytes evs.sound l (rw g.walked.all ((append_in done rest l).1 (inl m))))
            ∙ ap (λ (n : ℕ). n * record_size (stride_of p)) (sym g.counted),
      )

  -- the end of the sweep
  pub going_end : is_none t ≡ true → (derived_records p ≡ done) × (two_anchors (slices_of p) ≡ false)
  going_end = walked_all p g.walked

  module _ {next : Instant} {same : Bool} (u : Turn E at t next same) where
    head_is : same_instant (head_of (drop at E)) t ≡ same
    head_is = ap (λ (n : Instant). same_instant n t) (sym u.ahead) ∙ sym u.is

    -- ---- an event of the instant
    module _ (now : same ≡ true) where
      here : same_instant (head_of (drop at E)) t ≡ true
      here = head_is ∙ now

      pub going_within : (at < length E) × (length E ≤ 512)
      going_within = (
        by-test (ltb at (length E)) (λ y. omega tests)
            (λ n. let l : length E ≤ at = omega tests in
            absurd (none_false t u.go (sym (same_true (head_of (drop at E)) t here)
            ∙ ap (λ l. (head_of l).0) (drop_of_length-le E {i = at} l)))),
        evs.few,
      )

      -- that of a record
      module _ {place : ℕ} (q : place ≡ place_of (get_or E at 0)) {r : List ℕ} (f : r ≡ record_at (record_size (stride_of p)) place p)
          (small : place < 256) where
        placed : (place < count_of p) × ((slice_at p place).period.begin ≡ t) × (is_counted (slice_at p place) ≡ true)
        placed = rw q (record_here g.run going_within.0 here (rw q at small))

        pub going_sized : length r ≡ record_size (stride_of p)
        going_sized = ap length f ∙ size_at p (sound_table Permanent p evs.sound).roomy place placed.0

        pub going_comes : Comes (stride_of p) r t
        going_comes = rw f (record {
          begins = placed.1;
          counted = placed.2;
          own = carry_base p evs.bytes evs.sound place placed.0;
        })

        pub going_record : {s' : Sweep} → s' ≡ passed_with s r t → Going p E s' (at + 1) t count (view_of (stride_of p) r ∷ xs) done
        going_record e = record {
          run = rw (f, q) (run_record g.run going_within.0 here (rw q at small));
          told = e ∙ ap (λ (z : Sweep). passed_with z r t) g.told ∙ pass_told (stride_of p) (seen xs) r t going_comes.begins;
          few = omega (arith, g.few);
          within = omega (arith, going_within.0);
          walked = g.walked;
          counted = g.counted;
        }

      pub going_gone : (place_of (get_or E at 0) < 256 → ⊥) → Going p E s (at + 1) t count xs done
      going_gone h = record {
        run = run_gone g.run going_within.0 here h;
        told = g.told;
        few = omega (arith, g.few);
        within = omega (arith, going_within.0);
        walked = g.walked;
        counted = g.counted;
      }

    -- ---- all events of the instant are passed
    module _ (past : same ≡ false) where
      over : same_instant (head_of (drop at E)) t ≡ false
      over = head_is ∙ past

      pub going_two : is_two s t ≡ true → two_anchors (slices_of p) ≡ true
      going_two h =
          two_here g.run over (walked_in p low g.walked u.go)
          (sym (two_times (seen xs) t) ∙ ap (λ (z : Sweep). is_two z t) (sym g.told) ∙ h)

      module _ (one : is_two s t ≡ false) where
        tells_one : tells_two (seen xs) t ≡ false
        tells_one = sym (two_times (seen xs) t) ∙ ap (λ (z : Sweep). is_two z t) (sym g.told) ∙ one

        module _ {end : Instant} (e : end ≡ next_with s t next) where
          end_is : end ≡ next_of (later (slices_of p) (just_after t))
          end_is =
              e ∙ (λ i. next_with (g.told i) t (u.ahead i)) ∙ next_times (seen xs) t (head_of (drop at E))
              ∙ next_here g.run over tells_one

          pub going_on : (t.0 + 1 ≤ end.0) × (end.0 ≤ no_instant)
          going_on = walked_on p low g.walked u.go end_is

          onward : {done' : List (List ℕ)} → Walked p end done' → {n : ℕ} → n ≡ length done' → Going p E s at end n xs done'
          onward w q = record {
            run = run_on g.run end (omega (arith, going_on.0)) below;
            told = g.told;
            few = g.few;
            within = g.within;
            walked = w;
            counted = q;
          }
            where
              below : end.0 ≤ (head_of (drop at E)).0
              below = rw (e, ← u.ahead) (next_most s t next)

          pub going_past : is_known s t ≡ false → Going p E s at end count xs done
          going_past h =
              let (k, v, n) = unknown_told (seen xs) t (walked_given p low g.walked u.go)
              (ap (λ (z : Sweep). is_known z t) (sym g.told) ∙ h) in
              onward (walked_past p low g.walked u.go end_is k (state_here g.run over tells_one ∙ v) n) g.counted

          pub going_more : is_known s t ≡ true
              → Going p E s at end (count + 1) xs (done ++ (drawn_record (stride_of p) (count + 1) t end (state_at xs t) ∷ []))
          going_more h =
              let n : count + 1 ≡ suc (length done) = omega (arith, g.counted) in
              let known = state_here g.run over tells_one
              ∙ known_told (seen xs) t (ap (λ (z : Sweep). is_known z t) (sym g.told) ∙ h) in
              onward (rw n (walked_more p low g.walked u.go end_is (state_at xs t) known))
              (omega (arith, n, length-append done (drawn_record (stride_of p) (count + 1) t end (state_at xs t) ∷ [])))
