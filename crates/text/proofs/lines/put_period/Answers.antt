-- `text::lines::put_period` meets its contract. Assumes nothing.
use native.Mathlib.Omega.{arith}
use Rattle.text.proofs.TextWriting.{then}
use Rattle.text.proofs.lines.put_period.Goals as goal

pub returns : goal.returns
returns c =
    let p = c.before.before in
    let q = p.before.before.before.before.before in
    let r = q.before.before.before.before in
    then (omega arith) r.put_number-first.ensures (then (omega arith) q.put_end-second.ensures p.put_letters.ensures)
