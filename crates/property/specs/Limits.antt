-- A row as limits of three numbers of eight bytes, by which the code asks what the row asks. No promise of a public function
-- cites this file. Assumes nothing.
use Rattle.std.specs.Prelude.{ℕ, ◌-◌, ◌/◌, ◌^◌, List, map, Bool, cond, ◌&&◌, eqb, leb, ltb}
use Rattle.std.specs.Float.{binary64}
use Rattle.std.specs.Float.Ieee.{of_bits}
use Rattle.property.specs.Layout.{signed}
use Rattle.property.specs.Forms.{rows, row_for, nil_at, unit_at}
use Rattle.property.specs.declared.Row.{Row}
use Rattle.property.specs.declared.Limits.{Limits}
use Rattle.property.specs.declared.Value.{Value}
use Rattle.property.specs.declared.Value.TheVariants.{Unmentioned, Code, Number, Length, Point}

-- the greatest number of n bytes, and of 8 where n is more
abbrev pub most_of : ℕ → ℕ
most_of n = 256 ^ cond (ltb n 8) n 8 - 1

-- how many of n bytes are past the eighth
abbrev pub later_of : ℕ → ℕ
later_of n = n - 8

abbrev pub limits_of : Row → Limits
limits_of r = record { least = r.0; greatest = r.1; first = most_of r.2; second = most_of (later_of r.2) }

abbrev pub all_limits : List Limits
all_limits = map limits_of rows

unfoldable pub limits_for : ℕ → Limits
limits_for form = limits_of (row_for form)

unfoldable pub fits_of : Limits → ℕ → ℕ → ℕ → Bool
fits_of l head first second =
    leb l.least (head / 256) && (leb (head / 256) l.greatest && (leb first l.first && leb second l.second))

-- the value of a form, a detail and the content as two numbers, the highest byte first
unfoldable pub reading_of : ℕ → ℕ → ℕ → ℕ → Value
reading_of form detail first second =
    cond (eqb form 0) Unmentioned
    (cond (eqb form 1) (nil_at detail)
    (cond (eqb form 2) (Code (first / 2 ^ 48))
    (cond (eqb form 3) (Number (signed (first / 2 ^ 32)))
    (cond (eqb form 4) (Length (of_bits binary64 first) (unit_at detail))
    (Point (record { latitude = of_bits binary64 first; longitude = of_bits binary64 second }))))))
