-- `baselines::drawing::Lines::carry` meets its contract: a BASELINE, or a PERMDELTA for both lines. Assumes nothing.
use Prim.Native.Nat.{ℕ}
use mathlib.Core.Path.{sym, ap, subst, ◌∙◌}
use mathlib.Core.Bool.{Bool, not, ◌&&◌, ◌||◌}
use mathlib.Core.List.{List}
use native.Mathlib.Omega.{arith}
use lib.Dec.{ltb}
use borrow.Author.Tests.{eq-eqb, ne_eqb}
use Rattle.octets.specs.Writing.{pasted}
use Rattle.numbers.specs.Numbers.{is_none, given, before, same_instant}
use Rattle.slice.specs.Record.{baseline, view_of}
use Rattle.slice.specs.declared.record.Life.{Life}
use Rattle.state.proofs.Slices.{view_eight}
use Rattle.baselines.specs.Carried.{Lines, seen_with}
use Rattle.baselines.specs.declared.sweeping.Sweep.{Sweep}
use Rattle.baselines.proofs.Carried.{record_first}
use Rattle.baselines.proofs.Lines.{lines_begun, lines_changed}
use Rattle.baselines.proofs.drawing.Lines.carry.Goals as goal

-- ---- a BASELINE
pub returns-then-byte-eq-BASELINE-clause-lines : goal.returns-then-byte-eq-BASELINE-clause-lines
unfolding view_of
returns-then-byte-eq-BASELINE-clause-lines c =
    let a = c.args in
    let r = a.«record».now in
    let k = eq-eqb (view_of a.self.now.stride r).kind baseline (sym c.byte.ensures ∙ c.if-byte-eq-BASELINE.true) in
    λ v e comes h.
    subst (λ (l : List ℕ). Lines a.self.now.stride (seen_with v (view_of a.self.now.stride r)) a.t l a.self.now.line.now)
    (sym c.put.ensures)
    (lines_begun a.self.now.stride v (view_of a.self.now.stride r) a.t a.self.now.base.now a.self.now.line.now (pasted a.self.now.base.now 0 r) k
    comes.counted
    (λ b. rw (record_first a.self.now.stride a.self.now.base.now r c.requires (omega arith)) (comes.own b)) h)

-- ---- a PERMDELTA
pub returns-else-byte-eq-BASELINE-clause-lines : goal.returns-else-byte-eq-BASELINE-clause-lines
unfolding view_of
returns-else-byte-eq-BASELINE-clause-lines c =
    let a = c.args in
    let kind = ne_eqb (view_of a.self.now.stride a.«record».now).kind baseline
    (λ z. c.if-byte-eq-BASELINE.false (c.byte.ensures ∙ z)) in
    λ v same comes h.
    lines_changed a.self.now.stride v (view_of a.self.now.stride a.«record».now) kind comes.begins
    (view_eight a.self.now.stride a.«record».now)
    ((λ k. c.is_based.ensures k && not (c.is.ensures k))
    ∙ ap (λ (w : Sweep). before a.t w.end && not (same_instant w.begin a.t)) same)
    c.apply_where.ensures
    (ap (λ (y : Bool). ltb 0 a.s.openings || not y)
    (c.is_none.ensures ∙ ap (λ (y : Life). is_none y.begin) c.life_of.ensures)
    ∙ ap (λ (w : Sweep). ltb 0 w.openings || given (view_of a.self.now.stride a.«record».now).life.begin) same)
    c.apply_where-else-byte-eq-BASELINE.ensures h
