use Prim.Native.Nat.{ℕ, ◌+◌, ◌<◌}
use mathlib.Core.Path.{◌≡◌}
use mathlib.Core.Bool.{true, cond, ◌&&◌}
use lib.ListN.{length, get_or, drop}
use Rattle.slice.specs.Record.{view_of}
use Rattle.history.specs.Snapshot.{valid}
use Rattle.history.specs.Parts.{tells, latest_with, latest_valid}
use Rattle.state.specs.Asking.{slices_of}
use Rattle.state.specs.Steps.{place_and_one}
use Rattle.state.proofs.Marks.{Keeps, Noted}
use Rattle.state.proofs.overlay.overlay.Given as goal

-- each place stands for the last mention so far
abbrev pub invariant-loop-i : goal.invariant-loop-i
invariant-loop-i l =
    (length l.places ≡ 8)
    × ((q : ℕ) → q < 8
    → Keeps (latest_with (λ a b. true) (λ d. valid l.instant d && tells q d)) place_and_one (get_or l.places q 0)
    (latest_valid q l.instant (slices_of l.temporary)) l.i (drop l.i (slices_of l.temporary)))

-- the properties before this one are noted
abbrev pub invariant-loop-n : goal.invariant-loop-n
invariant-loop-n l =
    (length l.place-items ≡ 8)
    × Noted 0 0 (λ q k. cond (tells q (view_of l.stride l.record)) (l.i + 1) k) l.initial.place-items l.place-items l.n
