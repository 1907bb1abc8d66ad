-- `text::lines::put_refused` meets its contract. Assumes nothing.
use Rattle.std.proofs.Common.{arith, sym}
use Rattle.text.specs.Listing.{decimal_of}
use Rattle.text.proofs.TextWriting.{then}
use Rattle.text.proofs.lines.put_refused.Goals as goal

pub returns : goal.returns
unfolding decimal_of
returns c =
    rw (sym c.number.ensures)
    (then (omega arith) c.put_letters-first.ensures (then (omega arith) c.put_digits-second.ensures c.put_letters.ensures))
