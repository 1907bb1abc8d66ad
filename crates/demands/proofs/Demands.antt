-- What is demanded of the library, over the definitions that its promises cite, each proved by citing. docs/DEMANDS.md reads this
-- page aloud. Assumes nothing.
use Prim.Native.Nat.{ℕ, ◌+◌, ◌*◌, ◌-◌, ◌≤◌, ◌<◌}
use mathlib.Core.Path.{◌≡◌, refl, sym, ap, ◌∙◌}
use mathlib.Core.List.{List, [], map}
use mathlib.Core.Bool.{true}
use mathlib.Core.Logic.{◌⊎◌}
use lib.ListN.{length, take, drop}
use denote.Ref.{Bor}
use Rattle.std.specs.Prelude.{Ok, Err}
use Rattle.laws.specs.Lists.{kept}
use Rattle.laws.specs.Keyed.{In}
use Rattle.octets.specs.Bytes.{Bytes}
use Rattle.numbers.specs.Numbers.{no_instant}
use Rattle.numbers.specs.declared.Instant.{Instant}
use Rattle.slice.specs.Record.{permanent, record_size}
use Rattle.slice.specs.Check.{check_record, check_slice}
use Rattle.table.specs.Header.{side_of, count_of, feature_of, stride_of, stride1, room_of, records_of}
use Rattle.table.specs.Rules.{check_table}
use Rattle.table.specs.Arriving.{creation_tests, creation_of, creation_reply, created, record_of, arrival_of, arrival_reply}
use Rattle.table.specs.Arriving.{changed}
use Rattle.table.specs.Arriving.{filed, arrived_at}
use Rattle.table.specs.Deliveries.{Decided, delivered_to, Delivers, Agree, pairs_in, records_afresh, table_afresh, TableOf}
use Rattle.table.specs.declared.check.Sides.TheVariants.{Permanent, Temporary, Both}
use Rattle.table.proofs.Decides.{answers}
use Rattle.table.proofs.Stays.{still_sound}
use Rattle.table.proofs.AnyOrder.{of_set, afresh_is, only_afresh}
use Rattle.history.specs.Snapshot.{valid}
use Rattle.state.specs.Asking.{slices_of, misfits, permanent_state_of, snapshot_of, outcome_reply, place_of, place_reply, source_of}
use Rattle.state.specs.Asking.{source_reply, handed, Tells, after_state, after_snapshot, refused_outcome, refused_place}
use Rattle.state.specs.Touched.{touched_of, touched_reply, AnsweredBy, SameTouched}
use Rattle.state.specs.Reach.{Reached, SameState, SameSnapshot, SameProperty}
use Rattle.state.specs.declared.question.Place.TheVariants as place
use Rattle.state.specs.declared.looking.Touched.TheVariants as touched
use Rattle.state.proofs.Agrees.{property_agrees, quiet_snapshot}
use Rattle.state.proofs.SameRefusals.{place_refused_too, snapshot_refused_too}
use Rattle.state.proofs.Touches as touches
use Rattle.state.proofs.Reach.{state_changed, permanent_changed, temporary_changed, permanent_property, temporary_property}
use Rattle.state.proofs.Reach.{touched_changed}
use Rattle.baselines.specs.Deriving.{derived_records, refused_derivation, derivation_of, derivation_reply, after_deriving}
use Rattle.baselines.proofs.DerivedTable.{derived_told, derived_sound, derived_feature, derived_counts}
use Rattle.baselines.proofs.ReadBack.{back_written, back_refused, never_two, again}
use Rattle.baselines.proofs.Passes as passes
use Rattle.baselines.proofs.Passes.{derived_passes}
use Rattle.text.specs.Listing.{listing_of, said_of, put_of, after_put}
use Rattle.text.specs.declared.listing.Needs.{Needs}
use Rattle.demands.specs.Refused.{RefusedBy, arrival_tests, state_tests, snapshot_tests, property_tests, touched_tests}
use Rattle.demands.specs.Refused.{derived_tests}
use Rattle.demands.specs.Fourteen.{cases, answer, wanted, fourteen}
use Rattle.demands.proofs.Numbers.{creation_numbered, arrival_numbered, state_numbered, snapshot_numbered, place_numbered}
use Rattle.demands.proofs.Numbers.{source_numbered, touched_numbered, derived_numbered}

-- ==== DEMAND 1. Each call refuses with the number that document 01 gives, in the order it gives ...
module _ (t s p o output buffer : List ℕ) (side n : ℕ) (at : Instant) where
  pub new_table_refused : RefusedBy (creation_tests t side) (creation_reply (creation_of t side))
  new_table_refused = creation_numbered t side

  pub arrival_refused : RefusedBy (arrival_tests t s) (arrival_reply (arrival_of t s))
  arrival_refused = arrival_numbered t s

  pub state_refused : RefusedBy (state_tests p at buffer) (outcome_reply (permanent_state_of p at buffer))
  state_refused = state_numbered p at buffer

  pub snapshot_refused : RefusedBy (snapshot_tests p o at buffer) (outcome_reply (snapshot_of p o at buffer))
  snapshot_refused = snapshot_numbered p at buffer o

  -- where a property is, and so its bytes; and which table it is from
  pub property_refused : RefusedBy (property_tests p o at n) (place_reply (place_of p o at n))
  property_refused = place_numbered p o at n

  pub source_refused : RefusedBy (property_tests p o at n) (source_reply (source_of (place_of p o at n)))
  source_refused = source_numbered p o at n

  pub touched_refused : RefusedBy (touched_tests o at n) (touched_reply (touched_of o at n))
  touched_refused = touched_numbered o at n

  pub derivation_refused : RefusedBy (derived_tests p output) (derivation_reply (derivation_of p output))
  derivation_refused = derived_numbered p output

-- ... a refused call changes no byte that it was lent ...
module _ (f : ℕ) (t s p o output buffer feature : List ℕ) (side : ℕ) (at : Instant) where
  pub new_table_kept : created (Err f) t side feature ≡ t
  new_table_kept = refl

  pub arrival_kept : arrival_of t s ≡ Err f → arrived_at t s ≡ t
  arrival_kept e = ap (λ a. changed a t (filed (record_of s) (records_of (record_size (stride_of t)) t))) e

  pub state_kept : after_state (Err f) p at buffer ≡ buffer
  state_kept = refl

  pub snapshot_kept : after_snapshot (Err f) p o at buffer ≡ buffer
  snapshot_kept = refl

  pub derivation_kept : after_deriving (Err f) p output ≡ output
  derivation_kept = refl

-- ... nor does a listing that does not fit its buffer, of the listing or of what the program says ...
module _ (input text : List ℕ) (n : Needs) where
  pub list_kept : put_of (listing_of input) text ≡ Err n → after_put (put_of (listing_of input) text) (listing_of input) text ≡ text
  list_kept e = ap (λ a. after_put a (listing_of input) text) e

  pub say_kept : put_of (said_of input) text ≡ Err n → after_put (put_of (said_of input) text) (said_of input) text ≡ text
  say_kept e = ap (λ a. after_put a (said_of input) text) e

-- ... and the part that the property question hands back has length 0 where it is refused, and where nothing mentions the property
module _ (p o : Bor (List ℕ)) where
  pub refused_empty : (f : ℕ) → length (handed (Err f) p o).1 ≡ 0
  refused_empty f = refl

  pub unmentioned_empty : length (handed (Ok place.Unmentioned) p o).1 ≡ 0
  unmentioned_empty = refl

-- ==== DEMAND 2. The stored table: where a table and a slice pass their checks, one rule decides which answer the delivery gets;
-- and a table that passes its check passes it after any arrival
module _ (t s : List ℕ) where
  pub stored_table : check_table Both t ≡ Ok tt → check_slice (stride_of t) (feature_of t) (side_of t) s ≡ Ok tt
      → Decided (room_of (record_size (stride_of t)) t) (record_of s) (records_of (record_size (stride_of t)) t) (arrival_of t s)
  stored_table = answers t s

  pub stays_sound : check_table Both t ≡ Ok tt → check_table Both (arrived_at t s) ≡ Ok tt
  stays_sound = still_sound Both t s

-- The snapshot and the value of one property: where a snapshot is written, its property n is what the question hands back ...
module _ (p o : List ℕ) (at : Instant) (buffer : List ℕ) where
  pub property_value : snapshot_of p o at buffer ≡ Ok tt → (n : ℕ) → n < 8
      → Tells p o (take (stride_of p) (drop (32 + n * stride_of p) (after_snapshot (snapshot_of p o at buffer) p o at buffer)))
      (place_of p o at n)
  property_value e n h = property_agrees p o at buffer e n h

  -- ... the two are refused alike, the buffer's size (23) apart ...
  module _ (n : ℕ) (h : n < 8) (k : ℕ) where
    pub refused_alike : (k ≡ 23 → ⊥) → snapshot_of p o at buffer ≡ refused_outcome k → place_of p o at n ≡ refused_place k
    refused_alike = place_refused_too p o at n h buffer k

    pub alike_refused : place_of p o at n ≡ refused_place k
        → (snapshot_of p o at buffer ≡ refused_outcome k)
        ⊎ ((misfits p buffer ≡ true) × (snapshot_of p o at buffer ≡ refused_outcome 23))
    alike_refused = snapshot_refused_too p o at n h buffer k

  -- ... and where no TEMPDELTA is valid the snapshot is the permanent state
  pub quiet : check_table Temporary o ≡ Ok tt → feature_of p ≡ feature_of o → kept (valid at) (slices_of o) ≡ []
      → (snapshot_of p o at buffer ≡ permanent_state_of p at buffer)
      × (after_snapshot (snapshot_of p o at buffer) p o at buffer ≡ after_state (permanent_state_of p at buffer) p at buffer)
  quiet = quiet_snapshot p o at buffer

-- Has anything temporary touched a property: yes where the property question, of the same instant and property, answers with the
-- temporary table, no where it answers with the permanent one or "unmentioned" ...
module _ (p o : List ℕ) (at : Instant) (n : ℕ) where
  pub touched_agrees : AnsweredBy (place_of p o at n) (touched_of o at n)
  touched_agrees = touches.touched_agrees p o at n

  -- ... and the part that the question then hands back lies in the record at which `looked` records were looked at, from the end
  pub touched_part : (k looked : ℕ) → place_of p o at n ≡ Ok (place.Temporary k) → touched_of o at n ≡ Ok (touched.Yes looked)
      → k ≡ 32 + (count_of o - looked) * record_size (stride_of o) + 32 + n * stride_of o
  touched_part = touches.touched_part p o at n

-- Derived baselines. Of a table that passes 1 to 7 each derived record passes the slice check, so no derivation gives 24 ...
module _ (p : List ℕ) (bytes : Bytes p) where
  pub each_passes : check_table Permanent p ≡ Ok tt → (r : List ℕ) → In r (derived_records p)
      → check_record (stride_of p) permanent r ≡ Ok tt
  each_passes = derived_passes p bytes

  pub never_24 : (output : List ℕ) → derivation_of p output ≡ refused_derivation 24 → ⊥
  never_24 output = passes.never_24 p output bytes

-- ... and where it is not refused: p are the bytes of a permanent table, of which n baselines are derived into the output
module _ (p output : List ℕ) (n : ℕ) (bytes : Bytes p) (e : derivation_of p output ≡ Ok n) where
  abbrev derived : List ℕ
  derived = after_deriving (Ok n) p output

  -- n is the number of records defined; the derived table passes 1 to 7, names the same feature, and counts n
  pub number_defined : n ≡ length (derived_records p)
  number_defined = (derived_told p output n e).number

  pub table_sound : check_table Permanent derived ≡ Ok tt
  table_sound = derived_sound p output n (derived_told p output n e) bytes

  pub same_feature : feature_of derived ≡ feature_of p
  same_feature = derived_feature p output n (derived_told p output n e)

  pub header_counts : count_of derived ≡ n
  header_counts = derived_counts p output n (derived_told p output n e)

  -- read back alone, at every instant up to the last, into any record of the right size
  module _ (t : Instant) (h : t.0 < no_instant) (buffer : List ℕ) (fits : length buffer ≡ record_size (stride_of p)) where
    -- the same record wherever the original answers one
    pub same_record : permanent_state_of p t buffer ≡ Ok tt
        → (permanent_state_of derived t buffer ≡ Ok tt)
        × (after_state (Ok tt) derived t buffer ≡ after_state (Ok tt) p t buffer)
    same_record = back_written p output n bytes e t h buffer fits

    -- 20 wherever it does not
    pub no_state_elsewhere : (f : ℕ) → permanent_state_of p t buffer ≡ Err f
        → permanent_state_of derived t buffer ≡ refused_outcome 20
    no_state_elsewhere = back_refused p output n bytes e t h buffer fits

    -- and the original answers 21 at no instant
    pub two_nowhere : permanent_state_of p t buffer ≡ refused_outcome 21 → ⊥
    two_nowhere = never_two p output n bytes e t h buffer fits

  -- deriving again, into any output of the same length, gives the same answer and what the original gives there
  pub same_again : (other : List ℕ) → length other ≡ length output
      → (derivation_of derived other ≡ Ok n)
      × (after_deriving (Ok n) derived other ≡ after_deriving (Ok n) p other)
  same_again = again p output n bytes e

-- ==== DEMAND 3. A new table in a buffer, for a feature of 16 bytes; and a set of slices whose records agree, and whose kinds and
-- sequences fit the room
module _ (buffer : List ℕ) (side : ℕ) (feature : List ℕ) (named : length feature ≡ 16)
    (made : creation_of buffer side ≡ Ok tt) where
  abbrev fed : List (List ℕ) → List ℕ
  fed ss = delivered_to (created (Ok tt) buffer side feature) ss

  module _ (set : List (List ℕ)) (agree : Agree (map record_of set))
      (fit : pairs_in (map record_of set) ≤ room_of (record_size stride1) buffer) where
    -- any delivery whose passing slices are those of the set, in any order, with repeats and with any failing slices among them,
    -- leaves byte for byte the table of the set, worked out afresh
    pub as_afresh : (ss : List (List ℕ)) → Delivers feature side set ss
        → fed ss ≡ table_afresh buffer side feature (map record_of set)
    as_afresh ss delivers = of_set buffer side feature named made set ss delivers agree fit

    -- so two deliveries of the set, with other failing slices among them, leave the same bytes
    pub in_any_order : (ss us : List (List ℕ)) → Delivers feature side set ss → Delivers feature side set us → fed ss ≡ fed us
    in_any_order ss us d d' = as_afresh ss d ∙ sym (as_afresh us d')

-- what afresh means: the records rise, are of the set, and cover it; and nothing else is so
pub afresh_means : (set : List (List ℕ)) → TableOf set (records_afresh set)
afresh_means = afresh_is

pub nothing_else : (set rs : List (List ℕ)) → Agree set → TableOf set rs → rs ≡ records_afresh set
nothing_else = only_afresh

-- one further arrival changes an answer at an instant only within the reach of the slice or of the one that it replaced: at the
-- permanent table the permanent state, the snapshot, and both questions about a property, its bytes included ...
module _ (at : Instant) (p t s : List ℕ) where
  module _ (buffer : List ℕ) where
    pub in_reach_state : (SameState at p (arrived_at p s) buffer → ⊥) → Reached at p s
    in_reach_state = state_changed at p s buffer

    pub in_reach : (SameSnapshot at p (arrived_at p s) t t buffer → ⊥) → Reached at p s
    in_reach = permanent_changed at p s t buffer

    -- ... and at the temporary table the snapshot, and both questions about a property
    pub in_passing_reach : (SameSnapshot at p p t (arrived_at t s) buffer → ⊥) → Reached at t s
    in_passing_reach = temporary_changed at p t s buffer

  module _ (n : ℕ) where
    pub property_in_reach : (SameProperty at p (arrived_at p s) t t n → ⊥) → Reached at p s
    property_in_reach = permanent_property at p s t n

    pub property_in_passing_reach : (SameProperty at p p t (arrived_at t s) n → ⊥) → Reached at t s
    property_in_passing_reach = temporary_property at p t s n

    -- ... and whether anything temporary has touched a property: how many records were looked at is not claimed
    pub touched_in_reach : (SameTouched at t (arrived_at t s) n → ⊥) → Reached at t s
    touched_in_reach = touched_changed at t s n

-- ==== The fourteen examples of document 01, from bytes: specs/Fourteen.antt has the cases and what they answer
pub examples : map answer cases ≡ wanted
examples = fourteen
