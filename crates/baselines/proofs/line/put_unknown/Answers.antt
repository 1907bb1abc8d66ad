-- `baselines::line::put_unknown` meets its contract. Assumes nothing.
use Prim.Native.Nat.{ℕ, ◌+◌, ◌*◌}
use mathlib.Core.Path.{◌≡◌, sym, ap, subst, ◌∙◌}
use mathlib.Core.List.{List, [], ◌∷◌}
use native.Mathlib.Omega.{arith}
use lib.ListN.{length, replicate, length-replicate, replicate-append-replicate}
use lib.Seq.{take_at}
use Rattle.laws.proofs.Pieces.{piece_within}
use Rattle.octets.specs.Writing.{pasted}
use Rattle.octets.proofs.Writing.{take_pasted}
use Rattle.slice.specs.Record.{record_size}
use Rattle.baselines.specs.Carried.{Carries, line_size, record_of, unknown_state}
use Rattle.baselines.proofs.Carried.{unknown_to, unknown_none, unknown_more, unknown_carried}
use Rattle.baselines.proofs.line.put_unknown.Goals as goal

pub loop-n-init : goal.loop-n-init
loop-n-init c =
    let line = c.args.line.now in
    let n = c.args.stride in
    let long : length line ≡ line_size n = ap length c.requires.0 ∙ length-replicate (line_size n) 0 in
    let zeros : record_of n line ≡ replicate (record_size n) 0 =
    ap (record_of n) (c.requires.0 ∙ sym (replicate-append-replicate (record_size n) n 0))
    ∙ take_at (replicate (record_size n) 0) (replicate n 0) (record_size n) (length-replicate (record_size n) 0) in
    ap (record_of n) c.put.ensures
    ∙ take_pasted (record_size n) line (replicate 8 255) 16 (omega arith) (omega (arith, long))
    ∙ ap (λ (l : List ℕ). pasted l 16 (replicate 8 255)) zeros
    ∙ unknown_none n c.requires.1

pub loop-n-preserved : goal.loop-n-preserved
loop-n-preserved c =
    let l = c.loop-n in
    let n = l.n in
    let stride = c.args.stride in
    let inside = piece_within stride n 8 (omega arith) in
    let long : length l.line ≡ line_size stride = omega (arith, ap length c.requires.0 ∙ length-replicate (line_size stride) 0) in
    let wide = c.requires.1 in
    ap (record_of stride) c.put-in-loop-n.ensures
    ∙ take_pasted (record_size stride) l.line (1 ∷ 4 ∷ []) (32 + n * stride) (omega (arith, inside, wide)) (omega (arith, long))
    ∙ ap (λ (d : List ℕ). pasted d (32 + n * stride) (1 ∷ 4 ∷ [])) l.invariant
    ∙ unknown_more stride wide n c.loop-n-test.true

pub returns : goal.returns
returns c =
    let l = c.loop-n in
    let stride = c.args.stride in
    let e : l.n ≡ 8 = omega arith in
    subst (Carries stride unknown_state) (sym (l.invariant ∙ ap (unknown_to stride) e)) (unknown_carried stride c.requires.1)
