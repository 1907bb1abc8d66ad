-- The reach of a slice (document 01, "State at an instant t"). Assumes nothing.
use Rattle.std.specs.Prelude.{Bool, ◌&&◌, ◌||◌}
use Rattle.numbers.specs.Numbers.{at_most}
use Rattle.numbers.specs.declared.Instant.{Instant}
use Rattle.slice.specs.Record.{baseline, permdelta, tempdelta, Slice}
use Rattle.history.specs.Counted.{counts, holds}
use Rattle.history.specs.Period.{baseline_reach}

-- t lies in the reach of a slice: from a BASELINE's begin on, from a PERMDELTA's instant on, a TEMPDELTA's period; a
-- cancelled one has none
unfoldable pub reaches : Instant → Slice → Bool
reaches t s =
    (counts baseline s && baseline_reach t s)
    || ((counts permdelta s && at_most s.period.begin t)
    || (counts tempdelta s && holds t s.period.begin s.period.end))
