-- `text::lines::put_digits` meets its contract: it has fewer digits to write at each call of itself. Assumes nothing.
use Rattle.std.proofs.Common.{arith}
use Rattle.text.proofs.TextWriting.{then, wrote_none, wrote_most, digits_none, digits_one, digits_more}
use Rattle.text.proofs.lines.+put_digits.Goals as goal

pub returns-then-k-eq0 : goal.returns-then-k-eq0
returns-then-k-eq0 t c =
    let a = c.args in
    rw (digits_none a.k a.n c.if-k-eq0.true) (wrote_most (omega arith) (wrote_none a.s.now a.at (omega arith)))

pub returns-then-n-lt10 : goal.returns-then-n-lt10
returns-then-n-lt10 t c =
    let a = c.args in
    rw (digits_one a.k a.n (omega arith) (omega arith)) (wrote_most (omega arith) c.put_letters.ensures)

pub returns : goal.returns
returns t c =
    let a = c.args in
    rw (digits_more a.k a.n (omega arith) (omega arith))
    (wrote_most (omega arith) (then (omega arith) c.put_digits-end.ensures c.put_letters-2.ensures))
