-- What the steps of a derivation answer. No public promise cites this file. Assumes nothing.
use Rattle.std.specs.Prelude.{ℕ, ◌+◌, ◌≤◌, ◌≡◌, true, false, cond, List, length, ltb}
use Rattle.laws.specs.Lists.{joined}
use Rattle.numbers.specs.Numbers.{before}
use Rattle.numbers.specs.declared.Instant.{Instant}
use Rattle.events.specs.Order.{in_order}
use Rattle.std.specs.Prelude.{Ok}
use Rattle.table.specs.Rules.{check_table}
use Rattle.table.specs.declared.check.Sides.TheVariants.{Permanent}
use Rattle.history.specs.Derived.{two_anchors, baseline_of}
use Rattle.history.specs.State.{State}
use Rattle.history.specs.Sweep.{Seen}
use Rattle.state.specs.Written.{nil_unknown}
use Rattle.state.specs.Asking.{slices_of}
use Rattle.baselines.specs.Laid.{record_for}
use Rattle.baselines.specs.Noting.{noted}
use Rattle.baselines.specs.Sweeping.{times_of, is_known}
use Rattle.baselines.specs.Carried.{Lines}
use Rattle.baselines.specs.Deriving.{Derivation, derived_records, refused_derivation}
use Rattle.baselines.specs.declared.sweeping.Sweep.{Sweep}

-- the events of a sound table, in order, where no two anchors meet
abbrev pub Sweepable : List ℕ → List ℕ → Type 0
Sweepable p events =
    (check_table Permanent p ≡ Ok tt) × (events ≡ in_order (noted (slices_of p))) × (two_anchors (slices_of p) ≡ false)

-- an output holds the derived table
abbrev pub FitsIn : List ℕ → List ℕ → Type 0
FitsIn p output = (length (derived_records p) ≤ 256) × (32 + length (joined (derived_records p)) ≤ length output)

-- the record of a state from one change instant to the next
unfoldable pub drawn_record : ℕ → ℕ → Instant → Instant → State → List ℕ
drawn_record stride n begin end s =
    record_for stride (baseline_of (nil_unknown stride) n (record { period = record { begin = begin; end = end }; state = s }))

-- that of the state that is known at t
abbrev pub DrawsKnown : ℕ → Sweep → Instant → List ℕ → List ℕ → ℕ → Instant → List ℕ → Type 0
DrawsKnown stride s t base line n end r =
    (v : Seen) → s ≡ times_of v → is_known s t ≡ true → Lines stride v t base line
    → r ≡ drawn_record stride n t end (cond (before t v.end) v.base v.line)

-- all change instants
unfoldable pub counted_of : List ℕ → Derivation
counted_of p = cond (two_anchors (slices_of p)) (refused_derivation 21) (Ok (length (derived_records p)))

-- the last test: the output does not hold the records
unfoldable pub handed_of : List ℕ → List ℕ → Derivation
handed_of p output =
    cond (ltb (length output) (32 + length (joined (derived_records p)))) (refused_derivation 23)
    (Ok (length (derived_records p)))
