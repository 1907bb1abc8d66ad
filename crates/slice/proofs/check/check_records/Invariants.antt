-- What is found of all records is what is found from the next one on, in what is left.
use Rattle.std.proofs.Common.{◌≡◌, ◌-◌}
use Rattle.laws.specs.Lists.{pieces}
use Rattle.slice.specs.Check.{review_from, review_of}
use Rattle.slice.proofs.check.check_records.Given as goal

abbrev pub invariant-loop-place : goal.invariant-loop-place
invariant-loop-place l =
    review_of l.stride l.side (pieces l.size l.count l.bytes)
    ≡ review_from l.stride l.side l.place-counter (pieces l.size (l.count - l.place-counter) l.rest)
