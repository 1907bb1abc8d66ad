-- What a survey of a permanent table found: what it gives to the search for the anchor, and that this settles the standing.
-- Assumes nothing.
use Prim.Native.Nat.{ℕ, ◌≤◌, ◌<◌}
use mathlib.Core.Path.{◌≡◌, sym, subst}
use mathlib.Core.Bool.{Bool, true}
use mathlib.Core.List.{List}
use lib.ListN.{length, get_or}
use Rattle.std.specs.Prelude.{Result, Ok, Err}
use Rattle.numbers.specs.declared.Instant.{Instant}
use Rattle.slice.specs.Record.{Slice}
use Rattle.slice.specs.Refusing.{number, told}
use Rattle.slice.specs.declared.refusal.Refusal.{Refusal}
use Rattle.table.specs.Header.{count_of}
use Rattle.history.specs.Anchor.{stands}
use Rattle.history.specs.Parts.{opens_due, latest_due}
use Rattle.history.specs.Permanent.{refuses, permanent_at}
use Rattle.state.specs.Asking.{slices_of}
use Rattle.state.specs.Steps.{Walkable, nothing, wanted, mark_due, tally_from, since_of, Below, standing_of, Stored}
use Rattle.state.specs.declared.anchor.Few.{Few}
use Rattle.state.specs.declared.anchor.Few.TheVariants.{Zero}
use Rattle.state.specs.declared.anchor.Start.{Start}
use Rattle.state.specs.declared.mention.Mark.{Mark}
use Rattle.state.proofs.OnePass.{few_below, wanted_in, wanted_end, known_due, Begun, Settled, settled}

-- what a tally finds lies below the count
pub few_within : (test : Slice → Bool) (p : List ℕ) (few : Few) → few ≡ tally_from test 0 Zero (slices_of p)
    → Below (count_of p) few
few_within test p few e = rw e (few_below test p)

-- it was made at an instant, for the properties from one up to another
module _ (t : Instant) (p : List ℕ) (from to : ℕ) (bases openings : Few) (ms : List Mark) (walkable : Walkable p)
    (bases_is : bases ≡ tally_from (stands (slices_of p) t) 0 Zero (slices_of p))
    (openings_is : openings ≡ tally_from (opens_due (since_of p bases) t) 0 Zero (slices_of p))
    (marks : (length ms ≡ 10)
    × ((q : ℕ) → wanted from to q ≡ true → get_or ms q nothing ≡ mark_due (latest_due q (since_of p bases) t (slices_of p)))) where
  -- a property that it was made for
  pub mark_due_lem : (q : ℕ) → from ≤ q → q < to → get_or ms q nothing ≡ mark_due (latest_due q (since_of p bases) t (slices_of p))
  mark_due_lem q h k = marks.1 q (wanted_in from to q h k)

  pub mark_known : (q : ℕ) → from ≤ q → q < to → (get_or ms q nothing).from ≤ count_of p
  mark_known q h k = known_due (since_of p bases) t p walkable.whole q _ (mark_due_lem q h k)

  -- the search for the anchor settles the standing
  module _ (r : Result Start Refusal) (e : told r ≡ standing_of t p bases openings ms) where
    settles : Settled (since_of p bases) t p (told r)
    settles =
        subst (Settled (since_of p bases) t p) (sym e)
        (settled t p walkable.whole walkable.rising bases openings ms bases_is openings_is (marks.1 9 (wanted_end from to)))

    pub settles_refused : (f : Refusal) → r ≡ Err f → permanent_at t (slices_of p) ≡ refuses (number f)
    settles_refused f is = subst (λ r. Settled (since_of p bases) t p (told r)) is settles

    pub settles_known : (x : Start) → r ≡ Ok x → Begun (since_of p bases) t p x
    settles_known x is = subst (λ r. Settled (since_of p bases) t p (told r)) is settles

    pub settles_stored : (x : Start) → r ≡ Ok x → Stored p x.place
    settles_stored x is = record { whole = walkable.whole; below = (settles_known x is).place }
