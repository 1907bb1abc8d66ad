-- The events of a table's slices. No public promise cites this file. Assumes nothing.
use Rattle.std.specs.Prelude.{ℕ, suc, cond, List, [], ◌∷◌, ◌++◌, eqb}
use Rattle.numbers.specs.Numbers.{none, given}
use Rattle.numbers.specs.declared.Instant.{Instant}
use Rattle.events.specs.Order.{time_of, event_of}
use Rattle.slice.specs.Record.{baseline, Slice}

-- a place that is no record's
abbrev pub nowhere : ℕ
nowhere = 65535

-- the times that some slices give, as events: each that is given, with a place by where its slice stands
abbrev pub notes : (Slice → Instant) → (ℕ → ℕ) → ℕ → List Slice → List ℕ
notes time place i [] = []
notes time place i (x ∷ xs) =
    cond (given (time x)) (event_of (time x) (place i) ∷ notes time place (suc i) xs) (notes time place (suc i) xs)

-- the begin of each slice that has one, with its place
abbrev pub begins : ℕ → List Slice → List ℕ
begins = notes (λ s. s.period.begin) (λ i. i)

-- the life end of each BASELINE that has one
abbrev pub gone_of : Slice → Instant
gone_of s = cond (eqb s.kind baseline) s.life.end none

abbrev pub life_ends : ℕ → List Slice → List ℕ
life_ends = notes gone_of (λ _. nowhere)

unfoldable pub noted : List Slice → List ℕ
noted slices = begins 0 slices ++ life_ends 0 slices

-- the time of the first of some events, or none
abbrev pub head_of : List ℕ → Instant
head_of [] = none
head_of (e ∷ es) = time_of e
