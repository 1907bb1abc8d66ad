-- The forms of a property, one row a form, and the value that its bytes hold (document 01, "Table and record layout").
-- Assumes nothing.
use Rattle.std.specs.Prelude.{ℕ, ◌+◌, List, [], ◌∷◌, Bool, true, cond, ◌&&◌, length, get_or, eqb, leb, ltb, Option, Some}
use Rattle.octets.specs.Bytes.{byte_of, be_of}
use Rattle.property.specs.Layout.{detail_of, unused, signed, double_at, finite, degrees, only, layout}
use Rattle.property.specs.declared.Row.{Row}
use Rattle.property.specs.declared.Position.{Position}
use Rattle.property.specs.declared.LengthUnit.{LengthUnit}
use Rattle.property.specs.declared.LengthUnit.TheVariants.{M, FT, KM, NM}
use Rattle.property.specs.declared.Value.{Value}
use Rattle.property.specs.declared.Value.TheVariants.{Unmentioned, Inapplicable, Missing, Template, Unknown, Withheld, Code}
use Rattle.property.specs.declared.Value.TheVariants.{Number, Length, Point}

-- ---- the table
abbrev row : ℕ → ℕ → ℕ → Row
row least greatest used = record { 0 = least; 1 = greatest; 2 = used }

-- the least and the greatest detail, and how many content bytes are used
abbrev pub rows : List Row
rows =
    row 0 0 0
    ∷ row 1 5 0
    ∷ row 0 0 2
    ∷ row 0 0 4
    ∷ row 1 4 8
    ∷ row 0 0 16
    ∷ []

abbrev pub row_for : ℕ → Row
row_for form = get_or rows form (row 0 0 0)

-- bytes 2-7 are zero, the detail is within the row, and the content bytes behind those used are zero
unfoldable pub keeps : Row → List ℕ → Bool
keeps r p = unused 2 7 p && ((leb r.0 (detail_of p) && leb (detail_of p) r.1) && unused (8 + r.2) 23 p)

-- ---- the value by the form, the detail and the content
abbrev pub nil_at : ℕ → Value
nil_at d = cond (eqb d 1) Inapplicable (cond (eqb d 2) Missing (cond (eqb d 3) Template (cond (eqb d 4) Unknown Withheld)))

abbrev pub unit_at : ℕ → LengthUnit
unit_at d = cond (eqb d 1) M (cond (eqb d 2) FT (cond (eqb d 3) KM NM))

unfoldable pub held_of : List ℕ → Value
held_of p =
    cond (eqb (byte_of p 0) 0) Unmentioned
    (cond (eqb (byte_of p 0) 1) (nil_at (detail_of p))
    (cond (eqb (byte_of p 0) 2) (Code (be_of 2 p 8))
    (cond (eqb (byte_of p 0) 3) (Number (signed (be_of 4 p 8)))
    (cond (eqb (byte_of p 0) 4) (Length (double_at 8 p) (unit_at (detail_of p)))
    (Point (record { latitude = double_at 8 p; longitude = double_at 16 p }))))))

-- ---- what no count of bytes can say: a length is finite, a point is in range
abbrev pub in_range : Position → Bool
in_range q = degrees 90 q.latitude && degrees 180 q.longitude

abbrev pub right_of : Value → Bool
right_of Unmentioned = true
right_of Inapplicable = true
right_of Missing = true
right_of Template = true
right_of Unknown = true
right_of Withheld = true
right_of (Code n) = true
right_of (Number z) = true
right_of (Length x u) = finite x
right_of (Point q) = in_range q

-- ---- the value of 24 bytes by the table; it is that of Layout (proofs/Sound.antt, `by_table_lem`)
unfoldable pub by_table : List ℕ → Option Value
by_table p =
    only (eqb (length p) 24 && (ltb (byte_of p 0) 6 && (keeps (row_for (byte_of p 0)) p && right_of (held_of p))))
    (Some (held_of p))

-- `unfolding forms` opens every definition of this file, and those of the layout
unfoldable pub forms : Unit {0}
unfolding keeps held_of by_table layout
forms = tt
