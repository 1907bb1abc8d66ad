-- A state as a record (document 01, "State at an instant t"). Assumes nothing.
use Rattle.std.specs.Prelude.{ℕ, ◌-◌, List, ◌∷◌, ◌++◌, map, replicate}
use Rattle.laws.specs.Lists.{joined}
use Rattle.octets.specs.Writing.{bytes_of}
use Rattle.numbers.specs.Numbers.{none}
use Rattle.numbers.specs.declared.Instant.{Instant}
use Rattle.slice.specs.Record.{Property, unmentioned, says}
use Rattle.slice.specs.declared.record.Life.{Life}
use Rattle.history.specs.State.{State}

-- kind 4; flags, correction and sequence 0
abbrev pub state_kind : List ℕ
state_kind = 4 ∷ replicate 7 0

-- begin t, end none, and the life times
abbrev pub state_times : Instant → Life → List ℕ
state_times t life = bytes_of 4 t.0 ++ (bytes_of 4 none.0 ++ (bytes_of 4 life.begin.0 ++ bytes_of 4 life.end.0))

-- nil, unknown
abbrev pub nil_unknown : ℕ → List ℕ
nil_unknown stride = 1 ∷ 4 ∷ replicate (stride - 2) 0

-- a property as it is written: one that nothing mentions as nil, unknown
abbrev pub property_bytes : ℕ → Property → List ℕ
property_bytes stride unmentioned = nil_unknown stride
property_bytes stride (says p) = p

-- the snapshot or state record of t, over the stride of a property
unfoldable pub state_record : ℕ → Instant → State → List ℕ
state_record stride t s =
    state_kind ++ (state_times t s.life ++ (replicate 8 0 ++ joined (map (property_bytes stride) s.properties)))
