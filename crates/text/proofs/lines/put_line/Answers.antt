-- `text::lines::put_line` meets its contract. Assumes nothing.
use native.Mathlib.Omega.{arith}
use Rattle.text.proofs.TextWriting.{then, line_pieces}
use Rattle.text.proofs.lines.put_line.Goals as goal

pub returns : goal.returns
returns c =
    let p = c.before.before in
    let f = p.before.before.before.before.before in
    let q = f.before.before.before.before in
    let n = q.before.before.before.before.before in
    let k = n.before.before.before in
    let a = k.args in
    let number = rw k.key_of.ensures at n.put_number-first.ensures in
    let period = rw q.period_of.ensures at q.put_period-second.ensures in
    rw (line_pieces a.stride a.«record».now)
    (then (omega arith) number (then (omega arith) period (then (omega arith) f.put_forms-third.ensures p.put_letters.ensures)))
