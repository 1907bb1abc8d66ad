-- How what the library returns crosses to C. Assumes nothing.
use Rattle.std.specs.Prelude.{ℕ, List, cond, eqb}
use Rattle.laws.specs.Replies.{Reply, refused_with, accepted_as}
use Rattle.numbers.specs.declared.Instant.{Instant}
use Rattle.table.specs.Header.{stride_of}
use Rattle.timeslices.specs.declared.Answer.{Answer}
use Rattle.timeslices.specs.declared.Part.{Part}

-- an instant that C hands in
abbrev pub instant_of : ℕ → Instant
instant_of n = record { 0 = n }

-- kind 0 is a refusal, with its number; any other kind is an accepted answer, with its value
abbrev pub numbers_of : Reply → Answer
numbers_of (refused_with n) = record { kind = 0; number = n }
numbers_of (accepted_as k v) = record { kind = k; number = v }

-- a part of a table: where it begins, and how many bytes it has
abbrev pub part_at : ℕ → ℕ → ℕ → Part
part_at kind at size = record { kind = kind; number = 0; at = at; size = size }

-- of a permanent and a temporary table: kind 1 is a property of the first, kind 2 one of the second. Unused fields are 0
abbrev pub size_of : List ℕ → List ℕ → ℕ → ℕ
size_of p t kind = cond (eqb kind 1) (stride_of p) (cond (eqb kind 2) (stride_of t) 0)

abbrev pub part_of : List ℕ → List ℕ → Reply → Part
part_of p t (refused_with n) = record { kind = 0; number = n; at = 0; size = 0 }
part_of p t (accepted_as k at) = part_at k at (size_of p t k)
