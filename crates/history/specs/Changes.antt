-- Change instants (document 01, "Derived baselines"). Assumes nothing.
use Rattle.std.specs.Prelude.{cond, List, [], ◌∷◌, map}
use Rattle.laws.specs.Lists.{kept, joined}
use Rattle.laws.specs.Keyed.{sorted}
use Rattle.numbers.specs.Numbers.{none, given, before, same_instant}
use Rattle.numbers.specs.declared.Instant.{Instant}
use Rattle.slice.specs.Record.{baseline, permdelta, Slice}
use Rattle.history.specs.Counted.{counts}

-- the begin, end and life end of a counted BASELINE; the instant of a counted PERMDELTA
unfoldable pub changes_by : Slice → List Instant
changes_by s =
    cond (counts baseline s) (s.period.begin ∷ s.period.end ∷ s.life.end ∷ [])
    (cond (counts permdelta s) (s.period.begin ∷ []) [])

-- the distinct ones of all slices, where given, rising
unfoldable pub change_instants : List Slice → List Instant
change_instants slices = sorted (λ t. t) before same_instant (kept given (joined (map changes_by slices)))

-- the first of some, or none
abbrev pub next_of : List Instant → Instant
next_of [] = none
next_of (t ∷ ts) = t
