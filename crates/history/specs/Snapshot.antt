-- The snapshot at an instant. Assumes nothing.
use Rattle.std.specs.Prelude.{Bool, ◌&&◌, List}
use Rattle.laws.specs.Lists.{kept}
use Rattle.laws.specs.Orders.{lex_less}
use Rattle.laws.specs.Keyed.{sorted}
use Rattle.numbers.specs.Numbers.{lower_sequence, same_sequence, numbers}
use Rattle.numbers.specs.declared.Instant.{Instant}
use Rattle.numbers.specs.declared.SequenceNumber.{SequenceNumber}
use Rattle.slice.specs.Record.{tempdelta, Slice}
use Rattle.history.specs.Counted.{counts, holds}
use Rattle.history.specs.Period.{periods}
use Rattle.history.specs.Anchor.{stands, opens, anchor}
use Rattle.history.specs.State.{new_time, applied, applied_all}
use Rattle.history.specs.Permanent.{turn_less, same_turn, follows, following, Standing, refuses, known, withdrawn}
use Rattle.history.specs.Permanent.{unless_withdrawn, reached, permanent_at}

-- a TEMPDELTA with begin at most t and t before end
unfoldable pub valid : Instant → Slice → Bool
valid t d = counts tempdelta d && holds t d.period.begin d.period.end

abbrev pub sequence_in : Slice → SequenceNumber
sequence_in d = d.sequence

-- rising by sequence number
unfoldable pub passing : Instant → List Slice → List Slice
passing t slices = sorted sequence_in lower_sequence same_sequence (kept (valid t) slices)

-- a standing with slices applied
abbrev pub overlaid : List Slice → Standing → Standing
overlaid ds (refuses n) = refuses n
overlaid ds (known s) = known (applied_all s ds)

-- from the slices of the permanent and of the temporary table
unfoldable pub snapshot_at : Instant → List Slice → List Slice → Standing
snapshot_at t permanents temporaries = overlaid (passing t temporaries) (permanent_at t permanents)

-- `unfolding instants` opens every definition that a snapshot computes by
unfoldable pub instants : Unit {0}
unfolding counts holds periods stands opens anchor new_time applied turn_less same_turn follows following withdrawn unless_withdrawn
    reached permanent_at valid passing snapshot_at lex_less numbers
instants = tt
