-- What it is that a call is refused with the number that document 01 gives, in the order it gives. Assumes nothing.
use Rattle.std.specs.Prelude.{ℕ, ◌≡◌, List, [], ◌∷◌, ◌++◌, Bool, true, false, ◌↔◌}
use Rattle.laws.specs.Refusals.{Test, test, FirstFails}
use Rattle.laws.specs.Replies.{Reply, refused_with}
use Rattle.numbers.specs.declared.Instant.{Instant}
use Rattle.slice.specs.Record.{record_size, Slice}
use Rattle.slice.specs.Check.{slice_tests}
use Rattle.table.specs.Header.{side_of, feature_of, stride_of, room_of, records_of}
use Rattle.table.specs.Rules.{table_tests}
use Rattle.table.specs.Arriving.{record_of, filing_tests}
use Rattle.table.specs.declared.check.Sides.TheVariants.{Temporary, Both}
use Rattle.history.specs.Anchor.{Anchor, based, opened, nowhere, two, anchor}
use Rattle.history.specs.State.{started, applied_all}
use Rattle.history.specs.Permanent.{following, withdrawn}
use Rattle.state.specs.Asking.{slices_of, permanent_tests, both_tests, writing_tests, asking_tests}
use Rattle.baselines.specs.Deriving.{deriving_tests}

-- a call is refused with n exactly where the first of some tests that fails has the number n
abbrev pub RefusedBy : List Test → Reply → Type 0
RefusedBy tests reply = (n : ℕ) → (reply ≡ refused_with n) ↔ FirstFails n tests

-- ---- the tests of each call, in their order
-- arrival: 1-7, 9-18
abbrev pub arrival_tests : List ℕ → List ℕ → List Test
arrival_tests t s =
    (table_tests (stride_of t) Both t ++ slice_tests (stride_of t) (feature_of t) (side_of t) s)
    ++ filing_tests (room_of (record_size (stride_of t)) t) (record_of s) (records_of (record_size (stride_of t)) t)

-- the state at an instant: 21 for two anchors, 20 for none, 22 for a life end that is given and past
abbrev pub is_two : Anchor → Bool
is_two (based b) = false
is_two (opened o) = false
is_two nowhere = false
is_two two = true

abbrev pub is_nowhere : Anchor → Bool
is_nowhere (based b) = false
is_nowhere (opened o) = false
is_nowhere nowhere = true
is_nowhere two = false

abbrev pub is_withdrawn : Instant → List Slice → Anchor → Bool
is_withdrawn t slices (based b) = withdrawn t (applied_all (started b) (following t slices (based b)))
is_withdrawn t slices (opened o) = withdrawn t (applied_all (started o) (following t slices (opened o)))
is_withdrawn t slices nowhere = false
is_withdrawn t slices two = false

abbrev pub standing_tests : Instant → List Slice → List Test
standing_tests t slices =
    test 21 (is_two (anchor t slices)) ∷ test 20 (is_nowhere (anchor t slices)) ∷ test 22 (is_withdrawn t slices (anchor t slices))
    ∷ []

-- permanent state: 1-7, 19, 23, 21, 20, 22
abbrev pub state_tests : List ℕ → Instant → List ℕ → List Test
state_tests p at buffer = (permanent_tests p ++ writing_tests p at buffer) ++ standing_tests at (slices_of p)

-- snapshot: 1-7, 1-7, 8, 19, 23, 21, 20, 22
abbrev pub snapshot_tests : List ℕ → List ℕ → Instant → List ℕ → List Test
snapshot_tests p t at buffer = (both_tests p t ++ writing_tests p at buffer) ++ standing_tests at (slices_of p)

-- both property questions: 1-7, 1-7, 8, 19, 21, 20, 22
abbrev pub property_tests : List ℕ → List ℕ → Instant → ℕ → List Test
property_tests p t at n = (both_tests p t ++ asking_tests at n) ++ standing_tests at (slices_of p)

-- has anything temporary touched a property: 1-7, 19
abbrev pub touched_tests : List ℕ → Instant → ℕ → List Test
touched_tests t at n = table_tests (stride_of t) Temporary t ++ asking_tests at n

-- derived: 1-7, 21, 24, 23
abbrev pub derived_tests : List ℕ → List ℕ → List Test
derived_tests p output = permanent_tests p ++ deriving_tests p output
