-- The questions, test by test: what is left to answer behind each check, what a state is written from, and what a property is placed
-- by. Assumes nothing.
use Prim.Native.Nat.{ℕ, ◌+◌, ◌≤◌, ◌<◌}
use mathlib.Core.Path.{◌≡◌, refl, sym, ap, ◌∙◌}
use mathlib.Core.Bool.{Bool, true, false, cond, not, ◌||◌}
use mathlib.Core.List.{List, [], ◌∷◌, ◌++◌}
use lib.ListN.{length, get_or, replicate}
use lib.Dec.{ltb}
use borrow.Author.Tests.{eq-eqb}
use native.Mathlib.Omega.{arith}
use Rattle.laws.specs.Refusals.{Test, test, refuse}
use Rattle.laws.proofs.Tests.{tests, or_neither}
use Rattle.laws.proofs.Refusals.{refuse_join, passed_split, answer_given, number_given, given_passed, given_number}
use Rattle.octets.specs.Bytes.{same_bytes}
use Rattle.numbers.specs.Numbers.{is_none}
use Rattle.numbers.specs.declared.Instant.{Instant}
use Rattle.slice.specs.Record.{record_size, Slice}
use Rattle.slice.specs.Check.{Checked, refused}
use Rattle.std.specs.Prelude.{Result, Ok, Err}
use Rattle.std.specs.Bool.{OnTrue}
use Rattle.slice.proofs.Sound.{refused_apart, refused_tells}
use Rattle.table.specs.Header.{count_of, feature_of, stride_of}
use Rattle.table.specs.Rules.{table_tests, check_table}
use Rattle.table.specs.declared.check.Sides.{Sides}
use Rattle.table.specs.declared.check.Sides.TheVariants as sides
use Rattle.table.specs.Steps.{Whole}
use Rattle.table.proofs.Records.{room_most}
use Rattle.table.proofs.Sound.{sound_table}
use Rattle.history.specs.Permanent.{Standing, refuses, known, permanent_at}
use Rattle.history.specs.Snapshot.{passing, overlaid, snapshot_at}
use Rattle.state.specs.Asking.{slices_of, permanent_tests, both_tests, check_both, misfits, writing_tests, asking_tests}
use Rattle.state.specs.Asking.{Outcome, refused_outcome, outcome_of, permanent_state_of, snapshot_of, refused_place, place_at}
use Rattle.state.specs.Asking.{Located, place_of}
use Rattle.history.specs.Anchor.{stands}
use Rattle.history.specs.Parts.{opens_due, latest_due}
use Rattle.state.specs.Asking.{record_of}
use Rattle.slice.specs.Refusing.{number, told}
use Rattle.slice.specs.declared.refusal.Refusal.{Refusal}
use Rattle.state.specs.Steps.{Walkable, Stored, left_of, nothing, wanted, mark_due, tally_from, since_of}
use Rattle.state.specs.Steps.{standing_of}
use Rattle.state.specs.Steps.{life_from, property_from, run_of, Known, Ready, Laid, coming, coming_at, placed_by}
use Rattle.state.specs.Written.{state_kind, state_times}
use Rattle.state.specs.declared.anchor.Few.{Few}
use Rattle.state.specs.declared.anchor.Few.TheVariants.{Zero}
use Rattle.state.specs.declared.anchor.Start.{Start}
use Rattle.state.specs.declared.mention.Mark.{Mark}
use Rattle.slice.proofs.Replies.{checked_same}
use Rattle.state.proofs.Slices.{sound_rising, sound_walkable}
use Rattle.state.proofs.SurveyResult.{few_within, mark_due_lem, mark_known, settles_refused, settles_known, settles_stored}
use Rattle.state.proofs.OnePass.{known_valid}
use Rattle.state.proofs.StateRecord.{record_laid, laid_none, laid_passing}
use Rattle.state.proofs.PropertyPlace.{tests_sound, placed_is}

-- ---- a check, and the tests behind it
module _ {A : Type 0} (other : ℕ → A) (xs ys : List Test) (answer : A) where
  pub check_refuses : (f : ℕ) → refuse refused xs (Ok tt) ≡ Err f → refuse other (xs ++ ys) answer ≡ other f
  check_refuses f e =
      refuse_join other xs ys answer
      ∙ number_given other (refuse other ys answer) f xs
      (given_number refused (Ok tt) refused_apart refused_tells f xs e)

  pub check_passes : refuse refused xs (Ok tt) ≡ Ok tt → refuse other (xs ++ ys) answer ≡ refuse other ys answer
  check_passes e =
      refuse_join other xs ys answer
      ∙ answer_given other (refuse other ys answer) xs (given_passed refused (Ok tt) refused_apart xs e)

-- a check, and then an answer where it passes
abbrev pub behind : {A : Type 0} → (ℕ → A) → Checked → A → A
behind other (Ok _) answer = answer
behind other (Err f) answer = other f

pub check_behind : {A : Type 0} (other : ℕ → A) (xs ys : List Test) (answer : A) → refuse other (xs ++ ys) answer
    ≡ behind other (refuse refused xs (Ok tt)) (refuse other ys answer)
check_behind other xs ys answer = go (refuse refused xs (Ok tt)) refl
  where
    go : (c : Checked) → refuse refused xs (Ok tt) ≡ c → refuse other (xs ++ ys) answer ≡ behind other c (refuse other ys answer)
    go (Ok _) e = check_passes other xs ys answer e
    go (Err f) e = check_refuses other xs ys answer f e

-- a table that is sound has a header, and its count is within its room
pub headed : (sides : Sides) (t : List ℕ) → check_table sides t ≡ Ok tt → 32 ≤ length t
headed sides t e = (sound_table sides t e).headed

pub whole : (sides : Sides) (t : List ℕ) → check_table sides t ≡ Ok tt → Whole t
whole sides t e = (sound_table sides t e).roomy

-- ---- both tables
pub both_is : (p t : List ℕ) → check_both p t
    ≡ behind refused (check_table sides.Permanent p)
    (behind refused (check_table sides.Temporary t) (cond (not (same_bytes (feature_of p) (feature_of t))) (refused 8) (Ok tt)))
unfolding check_both both_tests permanent_tests check_table
both_is p t =
    let last = test 8 (not (same_bytes (feature_of p) (feature_of t))) ∷ [] in
    check_behind refused (table_tests (stride_of p) sides.Permanent p) (table_tests (stride_of t) sides.Temporary t ++ last) (Ok tt)
    ∙ ap (behind refused (check_table sides.Permanent p))
    (check_behind refused (table_tests (stride_of t) sides.Temporary t) last (Ok tt))

-- both tables are sound where the check passes, and name one feature
pub both_sound : (p t : List ℕ) → check_both p t ≡ Ok tt
    → (check_table sides.Permanent p ≡ Ok tt) × (check_table sides.Temporary t ≡ Ok tt)
unfolding check_both both_tests permanent_tests
both_sound p t e =
    let last = test 8 (not (same_bytes (feature_of p) (feature_of t))) ∷ [] in
    let q = passed_split (table_tests (stride_of p) sides.Permanent p) (table_tests (stride_of t) sides.Temporary t ++ last)
    (given_passed refused (Ok tt) refused_apart (both_tests p t) e) in
    let r = passed_split (table_tests (stride_of t) sides.Temporary t) last q.1 in
    (tests_sound sides.Permanent p q.0, tests_sound sides.Temporary t r.0)

-- ---- a question behind the check of its tables
pub state_is : (p : List ℕ) (at : Instant) (buffer : List ℕ)
    → permanent_state_of p at buffer
    ≡ behind refused_outcome (check_table sides.Permanent p) (left_of p at buffer (permanent_at at (slices_of p)))
unfolding permanent_state_of permanent_tests check_table
state_is p at buffer =
    check_behind refused_outcome (table_tests (stride_of p) sides.Permanent p) (writing_tests p at buffer)
    (outcome_of (permanent_at at (slices_of p)))

pub state_left : (p : List ℕ) (at : Instant) (buffer : List ℕ) → check_table sides.Permanent p ≡ Ok tt
    → left_of p at buffer (permanent_at at (slices_of p)) ≡ permanent_state_of p at buffer
state_left p at buffer e = sym (state_is p at buffer ∙ rw e)

-- past 19 and 23 it answers as the state stands
pub left_asked : (p : List ℕ) (at : Instant) (buffer : List ℕ) (s : Standing) → is_none at ≡ false
    → length buffer ≡ record_size (stride_of p) → outcome_of s ≡ left_of p at buffer s
unfolding misfits
left_asked p at buffer s e h = rw (e, eq-eqb (length buffer) (record_size (stride_of p)) h)

-- what is written on a state changes no refusal
outcome_laid : (l : List Slice) (s : Standing) → outcome_of s ≡ outcome_of (overlaid l s)
outcome_laid l (refuses n) = refl
outcome_laid l (known s) = refl

pub snapshot_is : (p t : List ℕ) (at : Instant) (buffer : List ℕ)
    → snapshot_of p t at buffer ≡ behind refused_outcome (check_both p t) (left_of p at buffer (permanent_at at (slices_of p)))
unfolding snapshot_of snapshot_at check_both
snapshot_is p t at buffer =
    let standing = permanent_at at (slices_of p) in
    check_behind refused_outcome (both_tests p t) (writing_tests p at buffer)
    (outcome_of (overlaid (passing at (slices_of t)) standing))
    ∙ ap (λ (o : Outcome). behind refused_outcome (check_both p t) (refuse refused_outcome (writing_tests p at buffer) o))
    (sym (outcome_laid (passing at (slices_of t)) standing))

pub place_is : (p t : List ℕ) (at : Instant) (n : ℕ)
    → place_of p t at n
    ≡ behind refused_place (check_both p t)
    (cond (is_none at || ltb 7 n) (refused_place 19) (place_at p t at n (permanent_at at (slices_of p))))
unfolding place_of check_both
place_is p t at n =
    check_behind refused_place (both_tests p t) (asking_tests at n) (place_at p t at n (permanent_at at (slices_of p)))

-- ---- what the questions about both tables go on with, and what they leave
module _ (p t : List ℕ) (e : check_both p t ≡ Ok tt) where
  pub both_walkable : Walkable p
  both_walkable = sound_walkable p sides.Permanent (both_sound p t e).0

  pub both_temporary : check_table sides.Temporary t ≡ Ok tt
  both_temporary = (both_sound p t e).1

  pub both_whole : Whole t
  both_whole = whole sides.Temporary t both_temporary

-- the places of what comes on a state
abbrev Coming : Bool → Instant → List ℕ → List ℕ → Type 0
Coming snapshot at t os = (length os ≡ 8) × ((q : ℕ) → q < 8 → get_or os q 0 ≡ coming_at snapshot at t q)

module _ (at : Instant) (t os : List ℕ) where
  pub coming_known : (snapshot : Bool) → Whole t → Coming snapshot at t os → (length os ≡ 8) × Known (count_of t) (λ q. get_or os q 0)
  coming_known true roomy places = (places.0, λ q h. known_valid at t roomy q (get_or os q 0) (places.1 q h))
  coming_known false roomy places = (places.0, λ q h. let e = places.1 q h in omega arith)

  pub coming_laid : (snapshot : Bool) → OnTrue snapshot (check_table sides.Temporary t ≡ Ok tt) → Coming snapshot at t os
      → Laid t os (coming snapshot at t)
  coming_laid true sound places = laid_passing at t os sound places.1
  coming_laid false _ places = laid_none t os places.1

-- with nothing on it, the permanent state; with what is valid on it, the snapshot
pub overlaid_none : (s : Standing) → overlaid [] s ≡ s
overlaid_none (refuses n) = refl
overlaid_none (known s) = refl

pub overlaid_passing : (at : Instant) (ps ts : List Slice) → overlaid (passing at ts) (permanent_at at ps) ≡ snapshot_at at ps ts
unfolding snapshot_at
overlaid_passing at ps ts = refl

-- ---- a state that is written, from what a survey of all properties and the search for the anchor found; the code tests by `none'`
-- and `size`
module _ (t : Instant) (p : List ℕ) (bases openings : Few) (ms : List Mark) (walkable : Walkable p)
    (bases_is : bases ≡ tally_from (stands (slices_of p) t) 0 Zero (slices_of p))
    (openings_is : openings ≡ tally_from (opens_due (since_of p bases) t) 0 Zero (slices_of p))
    (marks : (length ms ≡ 10)
    × ((q : ℕ) → wanted 0 8 q ≡ true → get_or ms q nothing ≡ mark_due (latest_due q (since_of p bases) t (slices_of p))))
    (r : Result Start Refusal) (e : told r ≡ standing_of t p bases openings ms)
    (buffer : List ℕ) (size : ℕ) (sized : length buffer ≡ size) (size_is : size ≡ record_size (stride_of p)) where
  module _ (none' : Bool) (none_is : none' ≡ is_none t) (given : none' ≡ false) where
    asked : outcome_of (permanent_at t (slices_of p)) ≡ left_of p t buffer (permanent_at t (slices_of p))
    asked = left_asked p t buffer (permanent_at t (slices_of p)) (sym none_is ∙ given) (sized ∙ size_is)

    pub writes_refused : (f : Refusal) → r ≡ Err f → refused_outcome (number f) ≡ left_of p t buffer (permanent_at t (slices_of p))
    writes_refused f is =
        sym (ap outcome_of (settles_refused t p 0 8 bases openings ms walkable bases_is openings_is marks r e f is))
        ∙ asked

    -- in what is written the answer comes first, and then the record that is left
    pub writes_known : (x : Start) → r ≡ Ok x → (o os : List ℕ)
        → (Ok tt ≡ left_of p t buffer (permanent_at t (slices_of p)))
        × ((l : List Slice) → Laid o os l
        → state_kind ++ (state_times t (life_from p x ms) ++ (replicate 8 0 ++ run_of (property_from p o x ms os) 8))
        ≡ record_of (stride_of p) t (overlaid l (permanent_at t (slices_of p))) buffer)
    writes_known x is o os =
        let begun = settles_known t p 0 8 bases openings ms walkable bases_is openings_is marks r e x is in (
          sym (ap outcome_of begun.state) ∙ asked,
          record_laid (since_of p bases) t p walkable.whole walkable.rising x begun ms marks.1 o os buffer,
        )

  module _ (x : Start) (is : r ≡ Ok x) (o os : List ℕ) where
    pub writes_ready : Whole o → (length os ≡ 8) × Known (count_of o) (λ q. get_or os q 0) → Ready buffer p o x ms os
    writes_ready whole places = record {
      sized = sized ∙ size_is;
      anchor = settles_stored t p 0 8 bases openings ms walkable bases_is openings_is marks r e x is;
      whole = whole;
      ten = marks.0;
      eight = places.0;
      below = λ q h. mark_known t p 0 8 bases openings ms walkable bases_is openings_is marks q (omega arith) h;
      above = places.1;
    }

-- ---- a property that is placed, from what a survey of it, the search for the anchor and the pass over the temporary table found
module _ (t : Instant) (p o : List ℕ) (checked : check_both p o ≡ Ok tt) (n : ℕ) (none' : Bool) (none_is : none' ≡ is_none t)
    (given : (none' || ltb 7 n) ≡ false) (bases openings : Few) (ms : List Mark)
    (bases_is : bases ≡ tally_from (stands (slices_of p) t) 0 Zero (slices_of p))
    (openings_is : openings ≡ tally_from (opens_due (since_of p bases) t) 0 Zero (slices_of p))
    (marks : (length ms ≡ 10)
    × ((q : ℕ) → wanted n (n + 1) q ≡ true → get_or ms q nothing ≡ mark_due (latest_due q (since_of p bases) t (slices_of p))))
    (r : Result Start Refusal) (e : told r ≡ standing_of t p bases openings ms) where
  abbrev walkable : Walkable p
  walkable = both_walkable p o checked

  small : n < 8
  small = let (_, h) = or_neither none' (ltb 7 n) given in omega tests

  left : (v : Located) → v ≡ place_at p o t n (permanent_at t (slices_of p)) → v ≡ place_of p o t n
  left v is = is ∙ sym (place_is p o t n ∙ rw (checked, ← none_is, given))

  pub places_refused : (f : Refusal) → r ≡ Err f → refused_place (number f) ≡ place_of p o t n
  places_refused f is =
      left (refused_place (number f))
      (sym (ap (place_at p o t n)
      (settles_refused t p n (n + 1) bases openings ms walkable bases_is openings_is marks r e f is)))

  module _ (x : Start) (is : r ≡ Ok x) (os : List ℕ) (valid : Coming true t o os) where
    pub places_asks : (n < 8) × Stored p x.place × ((get_or ms n nothing).from ≤ count_of p) × (get_or os n 0 ≤ 256)
    places_asks = (
      small,
      settles_stored t p n (n + 1) bases openings ms walkable bases_is openings_is marks r e x is,
      mark_known t p n (n + 1) bases openings ms walkable bases_is openings_is marks n (omega arith) (omega arith),
      omega (
        arith,
        known_valid t o (both_whole p o checked) n (get_or os n 0) (valid.1 n small),
        both_whole p o checked,
        room_most (record_size (stride_of o)) o,
      ),
    )

    pub places_is : placed_by p o x (get_or ms n nothing) (get_or os n 0) n ≡ place_of p o t n
    places_is =
        left (placed_by p o x (get_or ms n nothing) (get_or os n 0) n)
        (placed_is (since_of p bases) t p o walkable.whole walkable.rising (both_whole p o checked)
        (sound_rising o sides.Temporary (both_sound p o checked).1) x
        (settles_known t p n (n + 1) bases openings ms walkable bases_is openings_is marks r e x is) n small
        (get_or ms n nothing)
        (mark_due_lem t p n (n + 1) bases openings ms walkable bases_is openings_is marks n (omega arith) (omega arith))
        (get_or os n 0) (valid.1 n small))

-- ---- what the functions that ask cite
pub ruleset checking_both = (checked_same, both_is, headed)

pub ruleset asking_state = (checked_same, state_is, sound_walkable, overlaid_none)

pub ruleset asking_snapshot = (snapshot_is, both_walkable, both_whole, both_temporary, overlaid_passing)

pub ruleset asking_place = (place_is, both_walkable, both_whole, few_within, places_refused, places_is)

pub ruleset writing = (few_within, writes_refused)
