-- The BASELINEs that have begun, and the latest mention of each part of a state, by one pass over the slices as they stand. A part is a property, 0 to 7, the life
-- begin, 8, or the life end, 9. No public promise cites this file. Assumes nothing.
use Rattle.std.specs.Prelude.{ℕ, suc, Bool, true, cond, ◌&&◌, List, [], ◌∷◌, ltb, eqb}
use Rattle.std.proofs.Math.Option.{Option, none, some}
use Rattle.numbers.specs.Numbers.{given, at_most}
use Rattle.numbers.specs.declared.Instant.{Instant}
use Rattle.slice.specs.Record.{baseline, permdelta, Slice}
use Rattle.history.specs.Counted.{counts}
use Rattle.history.specs.Period.{begin_of}
use Rattle.history.specs.Permanent.{turn_of, turn_less}
use Rattle.history.specs.Snapshot.{valid}
use Rattle.history.specs.Source.{mentions}

-- a counted BASELINE that has begun by t
unfoldable pub begun : Instant → Slice → Bool
begun t b = counts baseline b && at_most (begin_of b) t

-- a slice tells part q
unfoldable pub tells : ℕ → Slice → Bool
tells q d = cond (ltb q 8) (mentions q d) (cond (eqb q 8) (given d.life.begin) (given d.life.end))

-- a PERMDELTA with its instant from one up to and with t; one that tells the life begin besides
unfoldable pub due : Instant → Instant → Slice → Bool
due since t d = counts permdelta d && (at_most since d.period.begin && at_most d.period.begin t)

unfoldable pub opens_due : Instant → Instant → Slice → Bool
opens_due since t d = due since t d && tells 8 d

-- a slice and its place among all
pub record Placed : Type 0 where
  pub place : ℕ
  pub slice : Slice

abbrev pub at : ℕ → Slice → Placed
at i d = record { place = i; slice = d }

-- one pass over slices as they stand, from place i on: what each makes of what was found before
module _ {S : Type 0} (step : S → ℕ → Slice → S) where
  abbrev pub pass_from : S → ℕ → List Slice → S
  pass_from s i [] = s
  pass_from s i (d ∷ ds) = pass_from (step s i d) (suc i) ds

-- the latest of slices, by a test that tells the later of two
module _ (later : Slice → Slice → Bool) (test : Slice → Bool) where
  -- the latest so far, and one more
  abbrev pub latest_with : Option Placed → ℕ → Slice → Option Placed
  latest_with none i d = cond (test d) (some (at i d)) none
  latest_with (some b) i d = cond (test d && later b.slice d) (some (at i d)) (some b)

  -- the latest of those that pass a test, from place i on
  abbrev pub latest_from : Option Placed → ℕ → List Slice → Option Placed
  latest_from = pass_from latest_with

-- by instant, then sequence number
abbrev pub later_turn : Slice → Slice → Bool
later_turn a b = turn_less (turn_of a) (turn_of b)

-- the latest mention of part q among the PERMDELTAs that are due
unfoldable pub latest_due : ℕ → Instant → Instant → List Slice → Option Placed
latest_due q since t slices = latest_from later_turn (λ d. due since t d && tells q d) none 0 slices

-- the latest mention of part q among the TEMPDELTAs that are valid: they stand in rising order of sequence number, so that any
-- that stands behind another is later
unfoldable pub latest_valid : ℕ → Instant → List Slice → Option Placed
latest_valid q t slices = latest_from (λ a b. true) (λ d. valid t d && tells q d) none 0 slices
