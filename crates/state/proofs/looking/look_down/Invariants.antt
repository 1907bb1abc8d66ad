-- No record that was looked at touches the property. Assumes nothing.
use Rattle.std.proofs.Common.{◌≡◌, ◌+◌, ◌-◌, false}
use lib.ListN.{drop}
use Rattle.laws.specs.Lists.{any}
use Rattle.history.specs.Touched.{touches}
use Rattle.state.specs.Asking.{slices_of}
use Rattle.state.proofs.looking.look_down.Given as goal

abbrev pub invariant-loop-looked : goal.invariant-loop-looked
invariant-loop-looked l = any (touches l.instant l.n) (drop (l.count + 1 - l.looked) (slices_of l.temporary)) ≡ false
