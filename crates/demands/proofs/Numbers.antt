-- Each call is refused by its tests in their order. Assumes nothing.
use Prim.Native.Nat.{ℕ}
use mathlib.Core.Path.{◌≡◌, refl, sym, ap, ◌∙◌, subst}
use mathlib.Core.List.{List, [], ◌++◌}
use mathlib.Core.Bool.{Bool, true, false, cond}
use mathlib.Core.Option.{Option, none, some}
use lib.ListN.{length}
use Rattle.std.specs.Prelude.{Ok}
use Rattle.laws.specs.Lists.{any}
use Rattle.laws.specs.Refusals.{Test, refuse}
use Rattle.laws.specs.Replies.{Reply, refused_with, accepted_as}
use Rattle.laws.proofs.Refusals.{refuse_join, refuse_map, number_given, given_number}
use Rattle.laws.proofs.Replies.{refusal_tells}
use Rattle.numbers.specs.declared.Instant.{Instant}
use Rattle.numbers.specs.Numbers as numbers
use Rattle.numbers.specs.Numbers.{lower_correction}
use Rattle.slice.specs.Record.{record_size, correction_of, Slice}
use Rattle.slice.specs.Check.{slice_tests}
use Rattle.table.specs.Header.{side_of, feature_of, stride_of, room_of, records_of}
use Rattle.table.specs.Rules.{table_tests}
use Rattle.table.specs.Arriving.{creation_refused, creation_tests, creation_of, creation_reply, refused_arrival, record_of}
use Rattle.table.specs.Arriving.{stored_of}
use Rattle.table.specs.Arriving.{Arrived, accepted_of, filing_tests, filing_of, arrival_of, arrival_reply}
use Rattle.table.specs.declared.check.Sides.TheVariants.{Both}
use Rattle.table.specs.declared.arrival.Arrival.TheVariants as arrival
use Rattle.history.specs.State.{State}
use Rattle.history.specs.Permanent.{Standing, refuses, known, permanent_at}
use Rattle.history.specs.Snapshot.{passing, overlaid, snapshot_at}
use Rattle.history.specs.Source.{line, last_mention}
use Rattle.history.specs.Touched.{touches}
use Rattle.state.specs.Asking.{slices_of, permanent_tests, both_tests, writing_tests, asking_tests, refused_outcome, outcome_of}
use Rattle.state.specs.Asking.{outcome_reply, permanent_state_of, snapshot_of, refused_place, placed, place_at, place_of}
use Rattle.state.specs.Asking.{place_reply}
use Rattle.state.specs.Asking.{Located, source_of, source_reply}
use Rattle.state.specs.Touched.{Looked, refused_touched, touched_by, touched_of, touched_reply}
use Rattle.state.specs.declared.question.Place.TheVariants as place
use Rattle.state.specs.declared.looking.Touched.TheVariants as touched
use Rattle.baselines.specs.Deriving.{derived_records, refused_derivation, derivation_of, derivation_reply}
use Rattle.demands.specs.Refused.{RefusedBy, arrival_tests, standing_tests, state_tests, snapshot_tests, property_tests}
use Rattle.demands.specs.Refused.{touched_tests, derived_tests}
use Rattle.demands.proofs.Standing.{answered, standing_tests_lem}

-- ---- a call whose answer is made by tests, and then an accepted one
abbrev Accepted : Reply → Type 0
Accepted (refused_with n) = ⊥
Accepted (accepted_as k v) = Unit {0}

by_tests : (tests : List Test) (accepted reply : Reply) → Accepted accepted → reply ≡ refuse refused_with tests accepted
    → RefusedBy tests reply
by_tests tests accepted reply a e n = (
  λ q. given_number refused_with accepted (λ k r. subst (λ x. Accepted x) (sym r) a) refusal_tells n tests (sym e ∙ q),
  λ f. e ∙ number_given refused_with accepted n tests f,
)

-- ---- a new table
pub creation_numbered : (t : List ℕ) (side : ℕ) → RefusedBy (creation_tests t side) (creation_reply (creation_of t side))
unfolding creation_of creation_reply
creation_numbered t side =
    by_tests (creation_tests t side) (accepted_as 1 0) _ tt
    (refuse_map creation_reply creation_refused refused_with (λ n. refl) (creation_tests t side) (Ok tt))

-- ---- an arrival
either : (b c : Bool) → Accepted (arrival_reply (cond {A = Arrived} b (Ok arrival.Replaced) (cond c (Ok arrival.Superseded) (Ok arrival.Repeat))))
unfolding arrival_reply
either true c = tt
either false true = tt
either false false = tt

accepted_arrival : (r : List ℕ) (o : Option (List ℕ)) → Accepted (arrival_reply (accepted_of r o))
unfolding arrival_reply
accepted_arrival r none = tt
accepted_arrival r (some x) =
    either (lower_correction (correction_of x) (correction_of r)) (lower_correction (correction_of r) (correction_of x))

pub arrival_numbered : (t s : List ℕ) → RefusedBy (arrival_tests t s) (arrival_reply (arrival_of t s))
unfolding arrival_of filing_of arrival_reply
arrival_numbered t s =
    let rs = records_of (record_size (stride_of t)) t in
    let before = table_tests (stride_of t) Both t ++ slice_tests (stride_of t) (feature_of t) (side_of t) s in
    let behind = filing_tests (room_of (record_size (stride_of t)) t) (record_of s) rs in
    let accepted = accepted_of (record_of s) (stored_of (record_of s) rs) in
    by_tests (arrival_tests t s) (arrival_reply accepted) (arrival_reply (arrival_of t s))
    (accepted_arrival (record_of s) (stored_of (record_of s) rs))
    (ap arrival_reply (sym (refuse_join refused_arrival before behind accepted))
    ∙ refuse_map arrival_reply refused_arrival refused_with (λ n. refl) (before ++ behind) accepted)

-- ---- the questions about an instant
-- any state
abbrev any_state : State
any_state = record { life = record { begin = numbers.none; end = numbers.none }; properties = [] }

-- tests, and then the standing, from which an accepted answer is made
behind_tests : (written : State → Reply) → ((s : State) → Accepted (written s))
    → (tests : List Test) (t : Instant) (slices : List Slice) (reply : Reply)
    → reply ≡ refuse refused_with tests (answered refused_with written (permanent_at t slices))
    → RefusedBy (tests ++ standing_tests t slices) reply
behind_tests written a tests t slices reply e =
    by_tests (tests ++ standing_tests t slices) (written _) reply (a _)
    (e ∙ ap (refuse refused_with tests) (standing_tests_lem refused_with written t slices any_state)
    ∙ sym (refuse_join refused_with tests (standing_tests t slices) _))

abbrev write : State → Reply
write s = accepted_as 1 0

outcome_answered : (v : Standing) → outcome_reply (outcome_of v) ≡ answered refused_with write v
unfolding outcome_reply
outcome_answered (refuses n) = refl
outcome_answered (known s) = refl

overlaid_answered : (ds : List Slice) (v : Standing) → outcome_reply (outcome_of (overlaid ds v)) ≡ answered refused_with write v
unfolding outcome_reply
overlaid_answered ds (refuses n) = refl
overlaid_answered ds (known s) = refl

module _ (p : List ℕ) (at : Instant) (buffer : List ℕ) where
  pub state_numbered : RefusedBy (state_tests p at buffer) (outcome_reply (permanent_state_of p at buffer))
  unfolding permanent_state_of outcome_reply
  state_numbered =
      let tests = permanent_tests p ++ writing_tests p at buffer in
      behind_tests write (λ s. tt) tests at (slices_of p) _
      (refuse_map outcome_reply refused_outcome refused_with (λ n. refl) tests _
      ∙ ap (refuse refused_with tests) (outcome_answered (permanent_at at (slices_of p))))

  pub snapshot_numbered : (t : List ℕ) → RefusedBy (snapshot_tests p t at buffer) (outcome_reply (snapshot_of p t at buffer))
  unfolding snapshot_of snapshot_at outcome_reply
  snapshot_numbered t =
      let tests = both_tests p t ++ writing_tests p at buffer in
      behind_tests write (λ s. tt) tests at (slices_of p) _
      (refuse_map outcome_reply refused_outcome refused_with (λ n. refl) tests _
      ∙ ap (refuse refused_with tests) (overlaid_answered (passing at (slices_of t)) (permanent_at at (slices_of p))))

-- ---- one property: where it is, and which table it is from
module _ (p t : List ℕ) (at : Instant) (n : ℕ) (reply : Located → Reply) (own : (k : ℕ) → reply (refused_place k) ≡ refused_with k)
    (permanent : (k : ℕ) → Accepted (reply (Ok (place.Permanent k)))) (temporary : (k : ℕ) → Accepted (reply (Ok (place.Temporary k))))
    (nowhere : Accepted (reply (Ok place.Unmentioned))) where
  accepted_place_lem : (u v : Option Slice) → Accepted (reply (placed p t n u v))
  accepted_place_lem (some d) v = temporary _
  accepted_place_lem none (some d) = permanent _
  accepted_place_lem none none = nowhere

  abbrev found : Located
  found = placed p t n (last_mention n (passing at (slices_of t))) (last_mention n (line at (slices_of p)))

  place_answered : (v : Standing) → reply (place_at p t at n v) ≡ answered refused_with (λ s. reply found) v
  place_answered (refuses k) = own k
  place_answered (known s) = refl

  asked_numbered : RefusedBy (property_tests p t at n) (reply (place_of p t at n))
  unfolding place_of
  asked_numbered =
      let tests = both_tests p t ++ asking_tests at n in
      behind_tests (λ s. reply found)
      (λ s. accepted_place_lem (last_mention n (passing at (slices_of t))) (last_mention n (line at (slices_of p)))) tests at (slices_of p) _
      (refuse_map reply refused_place refused_with own tests _
      ∙ ap (refuse refused_with tests) (place_answered (permanent_at at (slices_of p))))

module _ (p t : List ℕ) (at : Instant) (n : ℕ) where
  pub place_numbered : RefusedBy (property_tests p t at n) (place_reply (place_of p t at n))
  unfolding place_reply
  place_numbered = asked_numbered p t at n place_reply (λ k. refl) (λ k. tt) (λ k. tt) tt

  pub source_numbered : RefusedBy (property_tests p t at n) (source_reply (source_of (place_of p t at n)))
  unfolding source_reply
  source_numbered = asked_numbered p t at n (λ a. source_reply (source_of a)) (λ k. refl) (λ k. tt) (λ k. tt) tt

-- ---- whether anything temporary touches it
accepted_touched_lem : (b : Bool) (k : ℕ) → Accepted (touched_reply (cond {A = Looked} b (Ok (touched.Yes k)) (Ok (touched.No k))))
unfolding touched_reply
accepted_touched_lem true k = tt
accepted_touched_lem false k = tt

pub touched_numbered : (t : List ℕ) (at : Instant) (n : ℕ) → RefusedBy (touched_tests t at n) (touched_reply (touched_of t at n))
unfolding touched_of touched_by touched_reply
touched_numbered t at n =
    let answer = touched_by at n (slices_of t) in
    by_tests (touched_tests t at n) (touched_reply answer) _ (accepted_touched_lem (any (touches at n) (slices_of t)) _)
    (refuse_map touched_reply refused_touched refused_with (λ n. refl) (touched_tests t at n) answer)

-- ---- a derivation
pub derived_numbered : (p output : List ℕ) → RefusedBy (derived_tests p output) (derivation_reply (derivation_of p output))
unfolding derivation_of derivation_reply
derived_numbered p output =
    by_tests (derived_tests p output) (accepted_as 1 (length (derived_records p))) _ tt
    (refuse_map derivation_reply refused_derivation refused_with (λ n. refl) (derived_tests p output)
    (Ok (length (derived_records p))))
