-- How long a BASELINE holds, and how far it reaches (document 02, Q-2). This rule stands nowhere else. Assumes nothing.
use Rattle.std.specs.Prelude.{Bool, cond, ◌&&◌, List, [], ◌∷◌, map}
use Rattle.laws.specs.Lists.{kept}
use Rattle.numbers.specs.Numbers.{none, is_none, before, at_most}
use Rattle.numbers.specs.declared.Instant.{Instant}
use Rattle.slice.specs.Record.{baseline, Slice}
use Rattle.history.specs.Counted.{counts}

abbrev pub begin_of : Slice → Instant
begin_of s = s.period.begin

-- the least of some instants; none where there is none
abbrev pub least : List Instant → Instant
least [] = none
least (t ∷ ts) = cond (before t (least ts)) t (least ts)

-- a counted BASELINE that begins strictly after an instant
unfoldable pub begins_after : Instant → Slice → Bool
begins_after t s = counts baseline s && before t (begin_of s)

-- when a counted BASELINE of some slices ends: one whose end is none closes at the least begin, strictly after its own, of any
-- other counted BASELINE; a fixed end stays as sent
unfoldable pub until : List Slice → Slice → Instant
until slices b =
    cond (is_none b.period.end) (least (map begin_of (kept (begins_after (begin_of b)) slices))) b.period.end

-- t lies in the reach of a counted BASELINE: from its begin on, without end
unfoldable pub baseline_reach : Instant → Slice → Bool
baseline_reach t b = at_most (begin_of b) t

-- `unfolding periods` opens this file
unfoldable pub periods : Unit {0}
unfolding begins_after until baseline_reach
periods = tt
