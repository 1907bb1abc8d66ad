-- The questions about an instant: their refusals in order, and their answers (document 01, "Refusal numbers" and "State at an
-- instant t"). Assumes nothing.
use Rattle.std.specs.Prelude.{ℕ, ◌+◌, ◌*◌, ◌≡◌, Bool, not, ◌||◌, List, [], ◌∷◌, ◌++◌, map, length, take, drop, eqb, ltb, Result}
use Rattle.std.specs.Prelude.{Ok, Err}
use Rattle.std.proofs.Math.Option.{Option, none, some}
use Rattle.std.specs.Borrow.{Bor}
use Rattle.laws.specs.Lists.{first}
use Rattle.laws.specs.Refusals.{Test, test, refuse}
use Rattle.laws.specs.Replies.{Reply, refused_with, accepted_as}
use Rattle.octets.specs.Bytes.{same_bytes}
use Rattle.numbers.specs.Numbers.{is_none}
use Rattle.numbers.specs.declared.Instant.{Instant}
use Rattle.slice.specs.Record.{record_size, key_of, same_key, Slice, view_of}
use Rattle.slice.specs.Check.{Checked, refused}
use Rattle.table.specs.Header.{feature_of, stride_of, records_of}
use Rattle.table.specs.Rules.{table_tests, ruling}
use Rattle.table.specs.declared.check.Sides.TheVariants as sides
use Rattle.history.specs.Counted.{slice_key}
use Rattle.history.specs.Permanent.{Standing, refuses, known, permanent_at}
use Rattle.history.specs.Snapshot.{passing, snapshot_at, instants}
use Rattle.history.specs.Source.{line, mentions, last_mention}
use Rattle.state.specs.Written.{nil_unknown, state_record}
use Rattle.state.specs.declared.question.Place.{Place}
use Rattle.state.specs.declared.question.Place.TheVariants as place
use Rattle.state.specs.declared.question.Source.{Source}
use Rattle.state.specs.declared.question.Source.TheVariants as source

-- the slices that a table's records say
unfoldable pub slices_of : List ℕ → List Slice
slices_of t = map (view_of (stride_of t)) (records_of (record_size (stride_of t)) t)

-- ---- refusals before the instant is looked at: permanent table 1-7; temporary table 1-7, then 8; 19; 23 where a record is written
unfoldable pub permanent_tests : List ℕ → List Test
permanent_tests p = table_tests (stride_of p) sides.Permanent p

unfoldable pub both_tests : List ℕ → List ℕ → List Test
both_tests p t =
    permanent_tests p ++ (table_tests (stride_of t) sides.Temporary t ++ (test 8 (not (same_bytes (feature_of p) (feature_of t))) ∷ []))

-- the check of both tables by itself
unfoldable pub check_both : List ℕ → List ℕ → Checked
check_both p t = refuse refused (both_tests p t) (Ok tt)

-- a buffer that a record of the table does not fit exactly
unfoldable pub misfits : List ℕ → List ℕ → Bool
misfits p buffer = not (eqb (length buffer) (record_size (stride_of p)))

abbrev pub writing_tests : List ℕ → Instant → List ℕ → List Test
writing_tests p at buffer = test 19 (is_none at) ∷ test 23 (misfits p buffer) ∷ []

abbrev pub asking_tests : Instant → ℕ → List Test
asking_tests at property = test 19 (is_none at || ltb 7 property) ∷ []

-- ---- permanent state and snapshot
-- what writing a state returns: it is written, or the number of the refusal
abbrev pub Outcome : Type 0
Outcome = Result Unit ℕ

abbrev pub refused_outcome : ℕ → Outcome
refused_outcome n = Err n

abbrev pub outcome_of : Standing → Outcome
outcome_of (refuses n) = refused_outcome n
outcome_of (known s) = Ok tt

unfoldable pub permanent_state_of : List ℕ → Instant → List ℕ → Outcome
permanent_state_of p at buffer =
    refuse refused_outcome (permanent_tests p ++ writing_tests p at buffer) (outcome_of (permanent_at at (slices_of p)))

unfoldable pub snapshot_of : List ℕ → List ℕ → Instant → List ℕ → Outcome
snapshot_of p t at buffer =
    refuse refused_outcome (both_tests p t ++ writing_tests p at buffer) (outcome_of (snapshot_at at (slices_of p) (slices_of t)))

-- in numbers: written, 1
unfoldable pub outcome_reply : Outcome → Reply
outcome_reply (Ok _) = accepted_as 1 0
outcome_reply (Err f) = refused_with f

-- the lent buffer after an answer: the record of the state, or as it was
abbrev pub record_of : ℕ → Instant → Standing → List ℕ → List ℕ
record_of stride at (refuses n) buffer = buffer
record_of stride at (known s) buffer = state_record stride at s

abbrev pub buffered : Outcome → ℕ → Instant → Standing → List ℕ → List ℕ
buffered (Ok _) stride at s buffer = record_of stride at s buffer
buffered (Err f) stride at s buffer = buffer

abbrev pub after_state : Outcome → List ℕ → Instant → List ℕ → List ℕ
after_state o p at buffer = buffered o (stride_of p) at (permanent_at at (slices_of p)) buffer

abbrev pub after_snapshot : Outcome → List ℕ → List ℕ → Instant → List ℕ → List ℕ
after_snapshot o p t at buffer = buffered o (stride_of p) at (snapshot_at at (slices_of p) (slices_of t)) buffer

-- ---- one property
-- what the property question returns: a place, or the number of the refusal
abbrev pub Located : Type 0
Located = Result Place ℕ

abbrev pub refused_place : ℕ → Located
refused_place n = Err n

-- where property n of a slice begins in the table that holds it: kind and sequence number tell the record
unfoldable pub place_in : List ℕ → ℕ → Slice → ℕ
place_in t n s =
    32 + first (λ r. same_key (key_of r) (slice_key s)) (records_of (record_size (stride_of t)) t) * record_size
    (stride_of t) + 32 + n * stride_of t

-- in the table whose record mentioned it last: TEMPDELTAs come after what makes the permanent state
abbrev pub placed : List ℕ → List ℕ → ℕ → Option Slice → Option Slice → Located
placed p t n (some d) o = Ok (place.Temporary (place_in t n d))
placed p t n none (some d) = Ok (place.Permanent (place_in p n d))
placed p t n none none = Ok place.Unmentioned

abbrev pub place_at : List ℕ → List ℕ → Instant → ℕ → Standing → Located
place_at p t at n (refuses k) = refused_place k
place_at p t at n (known s) = placed p t n (last_mention n (passing at (slices_of t))) (last_mention n (line at (slices_of p)))

unfoldable pub place_of : List ℕ → List ℕ → Instant → ℕ → Located
place_of p t at n = refuse refused_place (both_tests p t ++ asking_tests at n) (place_at p t at n (permanent_at at (slices_of p)))

-- in numbers: in the permanent table, 1, and where it begins; in the temporary one, 2, and where it begins; unmentioned, 3
unfoldable pub place_reply : Located → Reply
place_reply (Ok (place.Permanent at)) = accepted_as 1 at
place_reply (Ok (place.Temporary at)) = accepted_as 2 at
place_reply (Ok place.Unmentioned) = accepted_as 3 0
place_reply (Err f) = refused_with f

-- the refusal, "unmentioned", or which table
abbrev pub Sourced : Type 0
Sourced = Result Source ℕ

abbrev pub source_of : Located → Sourced
source_of (Ok (place.Permanent n)) = Ok source.Permanent
source_of (Ok (place.Temporary n)) = Ok source.Temporary
source_of (Ok place.Unmentioned) = Ok source.Unmentioned
source_of (Err f) = Err f

-- in numbers: the permanent table, 1; the temporary one, 2; unmentioned, 3
unfoldable pub source_reply : Sourced → Reply
source_reply (Ok source.Permanent) = accepted_as 1 0
source_reply (Ok source.Temporary) = accepted_as 2 0
source_reply (Ok source.Unmentioned) = accepted_as 3 0
source_reply (Err f) = refused_with f

-- the bytes of the property at a place; none where the question is refused or nothing mentions it
abbrev pub bytes_at : List ℕ → List ℕ → Located → List ℕ
bytes_at p t (Ok (place.Permanent at)) = take (stride_of p) (drop at p)
bytes_at p t (Ok (place.Temporary at)) = take (stride_of t) (drop at t)
bytes_at p t (Ok place.Unmentioned) = []
bytes_at p t (Err f) = []

-- where a part of lent bytes points that begins at a place in them
abbrev pub points_into : Bor (List ℕ) → ℕ → ℕ × ℕ
points_into s at = (s.ref_ptr.0, at + s.ref_ptr.1)

-- the part that the property question hands back: where it points, and its bytes. Without bytes it is at
-- the permanent table's front
abbrev pub handed : Located → Bor (List ℕ) → Bor (List ℕ) → (ℕ × ℕ) × List ℕ
handed (Ok (place.Permanent at)) p t = (points_into p at, bytes_at p.now t.now (Ok (place.Permanent at)))
handed (Ok (place.Temporary at)) p t = (points_into t at, bytes_at p.now t.now (Ok (place.Temporary at)))
handed (Ok place.Unmentioned) p t = (points_into p 0, bytes_at p.now t.now (Ok place.Unmentioned))
handed (Err f) p t = (points_into p 0, bytes_at p.now t.now (Err f))

-- the bytes b, of a property in a snapshot, are those at the place that the property question tells; nil, unknown where nothing
-- mentions it
abbrev pub Tells : List ℕ → List ℕ → List ℕ → Located → Type 0
Tells p t b (Ok (place.Permanent k)) = b ≡ bytes_at p t (Ok (place.Permanent k))
Tells p t b (Ok (place.Temporary k)) = b ≡ bytes_at p t (Ok (place.Temporary k))
Tells p t b (Ok place.Unmentioned) = b ≡ nil_unknown (stride_of p)
Tells p t b (Err f) = ⊥

-- `unfolding asking` opens every definition that a question computes by
unfoldable pub asking : Unit {0}
unfolding slices_of permanent_tests both_tests check_both misfits permanent_state_of snapshot_of outcome_reply place_in place_of
    place_reply source_reply state_record line mentions last_mention instants ruling
asking = tt
