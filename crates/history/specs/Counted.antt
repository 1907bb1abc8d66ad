-- Which slices count, and when a period holds (document 01, "State at an instant t"). Assumes nothing.
use Rattle.std.specs.Prelude.{ℕ, Bool, not, ◌&&◌, eqb}
use Rattle.numbers.specs.Numbers.{before, at_most}
use Rattle.numbers.specs.declared.Instant.{Instant}
use Rattle.slice.specs.Record.{Slice}
use Rattle.slice.specs.declared.record.Key.{Key}

-- a slice of a kind that is not cancelled
unfoldable pub counts : ℕ → Slice → Bool
counts kind s = eqb s.kind kind && not s.cancelled

-- t lies in a period: from its begin on and before its end. None comes after every instant, so an end of none runs on
-- without limit
unfoldable pub holds : Instant → Instant → Instant → Bool
holds t begin end = at_most begin t && before t end

-- what a table is ordered by: the kind, then the sequence number
abbrev pub slice_key : Slice → Key
slice_key s = record { kind = s.kind; sequence = s.sequence }
