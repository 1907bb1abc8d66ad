-- `baselines::drawing::draw_all` meets its contract: the lines begin unknown. Assumes nothing.
use Prim.Native.Nat.{ℕ, ◌+◌}
use mathlib.Core.Path.{◌≡◌, sym, subst, ◌∙◌}
use mathlib.Core.List.{List}
use native.Mathlib.Omega.{arith}
use lib.ListN.{length, replicate, length-replicate}
use lib.Seq.{length-take-le, take_at}
use Rattle.table.specs.Header.{stride_of}
use Rattle.baselines.specs.Carried.{Carries, record_of, unknown_state}
use Rattle.baselines.proofs.drawing.draw_all.Goals as goal

pub draw_events-requires-clause-line : goal.draw_events-requires-clause-line
draw_events-requires-clause-line c =
    let stride = stride_of c.args.permanent.now in
    let n = c.stride_of-stride in
    let line : List ℕ = c.put_unknown.new.line in
    let long : length line ≡ c.record_size.result + n.result =
    c.put_unknown.auto.line
    ∙ length-take-le (c.record_size.result + n.result) (replicate 320 0)
    (omega (arith, c.record_size.ensures, n.ensures, length-replicate {A = ℕ} 320 0)) in
    subst (λ (l : List ℕ). Carries stride unknown_state (record_of stride l)) (sym (take_at line _ _ long))
    (subst (λ (k : ℕ). Carries k unknown_state (record_of k line)) n.ensures c.put_unknown.ensures)
