-- Derived baselines (document 01, "Derived baselines"). Assumes nothing.
use Rattle.std.specs.Prelude.{ℕ, suc, Bool, false, List, [], ◌∷◌, ◌++◌, map, eqb}
use Rattle.laws.specs.Lists.{any}
use Rattle.numbers.specs.declared.Instant.{Instant}
use Rattle.slice.specs.Record.{baseline, Property, unmentioned, says, Slice}
use Rattle.slice.specs.declared.record.Period.{Period}
use Rattle.history.specs.State.{State}
use Rattle.history.specs.Permanent.{Standing, refuses, known, permanent_at}
use Rattle.history.specs.Snapshot.{instants}
use Rattle.history.specs.Changes.{changes_by, change_instants, next_of}

-- ---- 21 at any change instant
abbrev pub has_two : Standing → Bool
has_two (refuses n) = eqb n 21
has_two (known s) = false

unfoldable pub two_anchors : List Slice → Bool
two_anchors slices = any (λ t. has_two (permanent_at t slices)) (change_instants slices)

-- ---- the stretches from one change instant to the next (or none) where a permanent state exists
pub record Stretch : Type 0 where
  pub period : Period
  pub state : State

abbrev pub stretch : Instant → Instant → Standing → List Stretch
stretch t next (refuses n) = []
stretch t next (known s) = record { period = record { begin = t; end = next }; state = s } ∷ []

abbrev pub stretches_from : List Slice → List Instant → List Stretch
stretches_from slices [] = []
stretches_from slices (t ∷ ts) = stretch t (next_of ts) (permanent_at t slices) ++ stretches_from slices ts

-- for each change instant, rising
unfoldable pub stretches : List Slice → List Stretch
stretches slices = stretches_from slices (change_instants slices)

-- ---- one BASELINE for each, over the bytes that say nil, unknown
module _ (unknown : List ℕ) where
  -- a property that nothing mentions is nil, unknown
  abbrev pub filled_in : Property → Property
  filled_in unmentioned = says unknown
  filled_in (says p) = says p

  -- the state's life times and properties, correction 0, and a sequence number
  unfoldable pub baseline_of : ℕ → Stretch → Slice
  baseline_of n s = record {
    kind = baseline;
    cancelled = false;
    correction = record { 0 = 0 };
    sequence = record { 0 = n };
    period = s.period;
    life = s.state.life;
    properties = map filled_in s.state.properties;
  }

  abbrev pub numbered_from : ℕ → List Stretch → List Slice
  numbered_from n [] = []
  numbered_from n (s ∷ ss) = baseline_of n s ∷ numbered_from (suc n) ss

  -- 1, 2, 3 and so on; equal neighbours are not merged
  unfoldable pub derived_baselines : List Slice → List Slice
  derived_baselines slices = numbered_from 1 (stretches slices)

  -- what reading them back answers: the state as it is written; 20 where there was none
  unfoldable pub as_written : State → State
  as_written s = record { life = s.life; properties = map filled_in s.properties }

  abbrev pub read_back : Standing → Standing
  read_back (refuses n) = refuses 20
  read_back (known s) = known (as_written s)

-- `unfolding derivations` opens every definition that a derivation computes by
unfoldable pub derivations : Unit {0}
unfolding changes_by change_instants two_anchors stretches baseline_of derived_baselines as_written instants
derivations = tt
