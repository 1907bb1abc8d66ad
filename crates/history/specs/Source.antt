-- Which slice mentioned a property last (document 01: "the one whose record mentioned it last in the order above").
-- Assumes nothing.
use Rattle.std.specs.Prelude.{ℕ, Bool, cond, List, [], ◌∷◌, get_or}
use Rattle.std.proofs.Math.Option.{Option, none, some}
use Rattle.numbers.specs.declared.Instant.{Instant}
use Rattle.slice.specs.Record.{unmentioned, is_mentioned, Slice}
use Rattle.history.specs.Anchor.{Anchor, based, opened, nowhere, two, anchor}
use Rattle.history.specs.Permanent.{following}

-- a slice mentions property p
unfoldable pub mentions : ℕ → Slice → Bool
mentions p d = is_mentioned (get_or d.properties p unmentioned)

-- the last slice that passes a test, and so far o did
abbrev pub last_of : (Slice → Bool) → Option Slice → List Slice → Option Slice
last_of test o [] = o
last_of test o (d ∷ ds) = last_of test (cond (test d) (some d) o) ds

-- the slices that make the permanent state at t, in the order in which they apply: the anchor, and those that follow it
abbrev pub line_from : Instant → List Slice → Anchor → List Slice
line_from t slices (based b) = b ∷ following t slices (based b)
line_from t slices (opened o) = o ∷ following t slices (opened o)
line_from t slices nowhere = []
line_from t slices two = []

unfoldable pub line : Instant → List Slice → List Slice
line t slices = line_from t slices (anchor t slices)

-- the slice of some that apply in this order that mentions property p last
unfoldable pub last_mention : ℕ → List Slice → Option Slice
last_mention p ds = last_of (mentions p) none ds
