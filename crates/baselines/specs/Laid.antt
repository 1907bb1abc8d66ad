-- A slice as a record: its fields where a record has them (document 01, "Table and record layout"). Assumes nothing.
use Rattle.std.specs.Prelude.{ℕ, cond, List, ◌∷◌, ◌++◌, map, replicate}
use Rattle.laws.specs.Lists.{joined}
use Rattle.octets.specs.Writing.{bytes_of}
use Rattle.slice.specs.Record.{Property, unmentioned, says, Slice}

-- a property says its bytes; one that is not mentioned is all zero
abbrev pub part_for : ℕ → Property → List ℕ
part_for stride unmentioned = replicate stride 0
part_for stride (says p) = p

unfoldable pub record_for : ℕ → Slice → List ℕ
record_for stride s =
    s.kind ∷ cond s.cancelled 1 0 ∷ bytes_of 2 s.correction.0
    ++ (bytes_of 4 s.sequence.0
    ++ (bytes_of 4 s.period.begin.0
    ++ (bytes_of 4 s.period.end.0
    ++ (bytes_of 4 s.life.begin.0
    ++ (bytes_of 4 s.life.end.0
    ++ (replicate 8 0
    ++ joined (map (part_for stride) s.properties)))))))
