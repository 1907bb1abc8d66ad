-- `baselines::drawing::Lines::draw_known` meets its contract: the line that is at hand says the state. Assumes nothing.
use mathlib.Core.Path.{◌≡◌, sym, ap, ◌∙◌, subst}
use mathlib.Core.Bool.{true}
use Rattle.numbers.specs.Numbers.{before}
use Rattle.history.specs.State.{State}
use Rattle.history.specs.Sweep.{Seen}
use Rattle.baselines.specs.Sweeping.{times_of, is_known}
use Rattle.baselines.specs.Carried.{Carries, record_of}
use Rattle.baselines.specs.declared.sweeping.Sweep.{Sweep}
use Rattle.baselines.proofs.Lines.{known_line}
use Rattle.baselines.proofs.drawing.Lines.draw_known.Goals as goal
use Rattle.baselines.proofs.drawing.Lines.draw_known.Goals.{After-is_based}

-- whether the BASELINE that began last holds, told by what is seen
based : (q : After-is_based) (v : Seen) → q.args.s ≡ times_of v → before q.args.period.begin v.end ≡ q.is_based.result
based q v e = ap (λ (s : Sweep). before q.args.period.begin s.end) (sym e) ∙ sym q.is_based.ensures

pub returns-else-is_based : goal.returns-else-is_based
returns-else-is_based c =
    let a = c.args in
    λ v e known lines.
    let b = based (goal.at.returns-else-is_based c).After-is_based v e ∙ c.if-is_based.false in
    let k : is_known (times_of v) a.period.begin ≡ true = ap (λ (s : Sweep). is_known s a.period.begin) (sym e) ∙ known in
    c.draw-else-is_based.ensures v.line
    (subst (λ (s : State). Carries a.self.now.stride s (record_of a.self.now.stride a.self.now.line.now)) (known_line v a.period.begin k b) lines.opened)
    ∙ sym (rw b)
