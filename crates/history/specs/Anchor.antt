-- The anchor of the state at an instant. Assumes nothing.
use Rattle.std.specs.Prelude.{Bool, ◌&&◌, List, [], ◌∷◌}
use Rattle.laws.specs.Lists.{kept}
use Rattle.numbers.specs.Numbers.{given, at_most}
use Rattle.numbers.specs.declared.Instant.{Instant}
use Rattle.slice.specs.Record.{baseline, permdelta, Slice}
use Rattle.history.specs.Counted.{counts, holds}
use Rattle.history.specs.Period.{until}

-- a BASELINE with begin at most t and t before its end
unfoldable pub stands : List Slice → Instant → Slice → Bool
stands slices t b = counts baseline b && holds t b.period.begin (until slices b)

-- an opening PERMDELTA (life begin given) with instant at most t
unfoldable pub opens : Instant → Slice → Bool
opens t d = counts permdelta d && (given d.life.begin && at_most d.period.begin t)

pub data Anchor : Type 0 where
  based : Slice → Anchor
  opened : Slice → Anchor
  nowhere : Anchor
  two : Anchor

-- the anchor where there is one alone; what is left to try where there is none
abbrev pub only : (Slice → Anchor) → Anchor → List Slice → Anchor
only at otherwise [] = otherwise
only at otherwise (x ∷ []) = at x
only at otherwise (x ∷ y ∷ xs) = two

-- the BASELINE that holds at t; if there is none, the PERMDELTA that has opened by t
unfoldable pub anchor : Instant → List Slice → Anchor
anchor t slices = only based (only opened nowhere (kept (opens t) slices)) (kept (stands slices t) slices)
