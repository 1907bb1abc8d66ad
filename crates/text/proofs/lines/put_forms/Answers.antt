-- `text::lines::put_forms` meets its contract. Assumes nothing.
use Rattle.std.proofs.Common.{◌≡◌, arith}
use Rattle.property.specs.Eight.{properties_of}
use Rattle.text.proofs.TextWriting.{then, wrote_none, forms_more}
use Rattle.text.proofs.lines.put_forms.Goals as goal

pub loop-i-init : goal.loop-i-init
loop-i-init c = wrote_none _ _ (omega (arith, c.requires.0))

pub loop-i-preserved : goal.loop-i-preserved
loop-i-preserved c =
    let l = c.loop-i in
    rw (forms_more c.args.stride c.args.«record».now l.i c.requires.1.0 c.loop-i-test.true)
    (then (omega (arith, c.requires.0, c.loop-i-test.true)) l.invariant (rw c.byte.ensures at c.put_letters-end.ensures))

pub returns : goal.returns
unfolding properties_of
returns c = let e : c.loop-i.i ≡ 8 = omega arith in rw e at c.loop-i.invariant
