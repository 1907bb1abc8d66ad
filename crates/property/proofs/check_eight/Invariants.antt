-- `property::check_eight`: what is found of the eight is what is found from property i on, after so many mentions.
-- Assumes nothing.
use Rattle.std.proofs.Common.{◌≡◌, ◌≤◌, ◌*◌, ◌-◌, drop}
use Rattle.laws.specs.Lists.{pieces}
use Rattle.property.specs.Eight.{survey_of}
use Rattle.property.proofs.Found.{found_from}
use Rattle.property.proofs.check_eight.Given as goal

abbrev pub invariant-loop-i : goal.invariant-loop-i
invariant-loop-i l = record {
  few : l.mentioned ≤ l.i;
  found : survey_of l.stride l.bytes ≡ found_from l.i l.mentioned (pieces l.stride (8 - l.i) (drop (l.i * l.stride) l.bytes));
}
