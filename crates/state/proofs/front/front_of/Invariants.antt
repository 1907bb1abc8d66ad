use Prim.Native.Nat.{ℕ, ◌≤◌, ◌<◌}
use lib.ListN.{get_or, drop}
use Rattle.slice.specs.Record.{baseline, Slice}
use Rattle.state.specs.Asking.{slices_of}
use Rattle.state.specs.Steps.{no_base, base_with, bases_from}
use Rattle.state.proofs.Marks.{Keeps}
use Rattle.state.proofs.front.front_of.Given as goal

-- what is kept stands for what was found so far, and each slice so far is none above BASELINE
abbrev pub invariant-loop-place : goal.invariant-loop-place
invariant-loop-place l =
    Keeps (base_with l.instant) (λ b. b) l.bases (bases_from l.instant 0 no_base (slices_of l.permanent)) l.place
    (drop l.place (slices_of l.permanent))
    × ((j : ℕ) (d : Slice) → j < l.place → (get_or (slices_of l.permanent) j d).kind ≤ baseline)
