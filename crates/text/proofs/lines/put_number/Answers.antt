-- `text::lines::put_number` meets its contract. Assumes nothing.
use native.Mathlib.Omega.{arith}
use Rattle.text.specs.Listing.{decimal_of}
use Rattle.text.proofs.TextWriting.{then}
use Rattle.text.proofs.lines.put_number.Goals as goal

pub returns : goal.returns
unfolding decimal_of
returns c =
    let p = c.before.before in
    let q = p.before.before.before.before.before in
    then (omega arith) q.put_digits-end.ensures p.put_letters.ensures
