-- `baselines::line::copy` meets its contract. Assumes nothing.
use Prim.Native.Nat.{ℕ, ◌+◌, ◌-◌, ◌≤◌}
use mathlib.Core.Path.{◌≡◌, refl, sym, ap, ◌∙◌}
use mathlib.Core.List.{List, ◌++◌}
use native.Mathlib.Omega.{arith}
use lib.ListN.{length, take, drop, length-drop}
use lib.Seq.{length-take-le, take-add, drop-drop}
use Rattle.octets.specs.Writing.{pasted}
use Rattle.state.proofs.Pasting.{pasted_on, pasted_none}
use Rattle.baselines.proofs.line.copy.Goals as goal

-- some more bytes
on : (d o s r : List ℕ) (to at i m : ℕ) → to + (i + m) ≤ length d → at + (i + m) ≤ length o
    → s ≡ pasted d to (take i (drop at o)) → r ≡ pasted s (to + i) (take m (drop (at + i) o))
    → r ≡ pasted d to (take (i + m) (drop at o))
on d o s r to at i m h k e f =
    let a : length (take i (drop at o)) ≡ i = length-take-le i (drop at o) (simp length-drop (omega arith)) in
    let b : length (take m (drop (at + i) o)) ≡ m = length-take-le m (drop (at + i) o) (simp length-drop (omega arith)) in
    pasted_on d (take i (drop at o)) (take m (drop (at + i) o)) to (to + i) e f (omega (arith, a)) (omega (arith, b))
    ∙ ap (pasted d to) (sym (take-add i m (drop at o) ∙ ap (λ (l : List ℕ). take i (drop at o) ++ take m l) (drop-drop i at o)))

pub loop-i-init : goal.loop-i-init
loop-i-init c = (omega arith, (refl, pasted_none _ _ (omega arith)))

pub loop-i-preserved : goal.loop-i-preserved
loop-i-preserved c =
    let a = c.args in
    let l = c.loop-i in
    let more : l.i + 8 ≤ a.n = omega arith in (
      more,
      (
        c.copy8.auto.line ∙ l.invariant.1.0,
        on a.line.now a.other.now l.line _ a.to a.at l.i 8 (omega (arith, c.requires.0, more)) (omega (arith, c.requires.1, more))
            l.invariant.1.1 c.copy8.ensures,
      ),
    )

pub returns : goal.returns
returns c =
    let a = c.args in
    let i = c.loop-i.i in
    let m = a.at + a.n - (a.at + i) in
    let e : i + m ≡ a.n = omega arith in
    on a.line.now a.other.now c.loop-i.line _ a.to a.at i m (omega (arith, e, c.requires.0)) (omega (arith, e, c.requires.1))
    c.loop-i.invariant.1.1 c.put.ensures
    ∙ ap (λ (k : ℕ). pasted a.line.now a.to (take k (drop a.at a.other.now))) e
