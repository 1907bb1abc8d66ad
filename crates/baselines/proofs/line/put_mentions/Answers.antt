-- `baselines::line::put_mentions` meets its contract: each turn goes on from what the properties before have made. Assumes nothing.
use Prim.Native.Nat.{ℕ, suc, ◌+◌, ◌*◌, ◌≤◌, ◌<◌}
use mathlib.Core.Path.{◌≡◌, sym, ap, subst, ◌∙◌}
use mathlib.Core.List.{List}
use native.Mathlib.Omega.{arith}
use lib.ListN.{length, drop, length-drop}
use lib.Seq.{length-take-le}
use Rattle.laws.proofs.Pieces.{piece_within}
use Rattle.octets.specs.Writing.{pasted}
use Rattle.octets.proofs.Writing.{take_pasted, take_behind}
use Rattle.slice.specs.Record.{record_size, view_of}
use Rattle.history.specs.State.{State}
use Rattle.state.proofs.Slices.{property_at, view_eight, view_sized}
use Rattle.baselines.specs.Carried.{Carries, line_size, record_of, mentions_over}
use Rattle.baselines.proofs.Carried.{partly, partly_skip, partly_put, partly_all, view_skips, view_says}
use Rattle.baselines.proofs.line.put_mentions.Goals as goal
use Rattle.baselines.proofs.line.put_mentions.Goals.{then-byte-eq0, else-byte-eq0}

-- property n lies within the record
within : (n stride : ℕ) (delta : List ℕ) → n < 8 → length delta ≡ record_size stride → 32 + n * stride + stride ≤ length delta
within n stride delta h e = omega (arith, piece_within stride n 8 h, e)

pub copy-requires : goal.copy-requires
copy-requires c =
    let n = c.loop-n.n in
    let stride = c.args.stride in
    let inside = within n stride c.args.delta.now c.loop-n-test.true c.requires.0 in
    let to : c.if-byte-eq0.to ≤ record_size stride =
    elim c.if-byte-eq0.branch [
      | then-byte-eq0 w ↦ omega (arith, w.to-is, c.requires.0)
      | else-byte-eq0 w ↦ omega (arith, w.to-is, inside, c.requires.0)
    ] in
    (omega (arith, to, c.loop-n.auto.line, c.requires.1), inside)

pub loop-n-preserved : goal.loop-n-preserved
loop-n-preserved c =
    let l = c.loop-n in
    let n = l.n in
    let stride = c.args.stride in
    let delta = c.args.delta.now in
    let size = c.requires.0 in
    let few = c.loop-n-test.true in
    let inside = within n stride delta few size in
    let at : ℕ = 32 + n * stride in
    let bytes = property_at stride delta n in
    let bytes_long : length bytes ≡ stride = length-take-le stride (drop at delta) (simp length-drop (omega (arith, inside))) in
    let long : length l.line ≡ line_size stride = omega (arith, c.requires.1) in
    let d = view_of stride delta in
    let eight = view_eight stride delta in
    let spoken = view_sized stride delta size in
    -- where it goes
    let goes : (to : ℕ) → c.if-byte-eq0.to ≡ to → record_of stride c.copy.new.line ≡ record_of stride (pasted l.line to bytes) =
    λ to e. ap (record_of stride) (c.copy.ensures ∙ ap (λ (n : ℕ). pasted l.line n bytes) e) in
    let carried : (s : State) (h : Carries stride s (record_of stride c.args.line.now))
    → record_of stride c.copy.new.line ≡ partly stride d s _ h (suc n) =
    λ s h.
    let was = l.invariant s h in
    elim c.if-byte-eq0.branch [
      | then-byte-eq0 w ↦
          goes (record_size stride) (w.to-is ∙ size)
          ∙ take_behind (record_size stride) l.line bytes (omega (arith, bytes_long, long))
          ∙ was
          ∙ sym (partly_skip stride d s _ h eight spoken n
          (view_skips stride delta n few size (sym c.byte.ensures ∙ w.if-byte-eq0.true)))
      | else-byte-eq0 w ↦
          goes at w.to-is
          ∙ take_pasted (record_size stride) l.line bytes at (omega (arith, bytes_long, inside, size)) (omega (arith, long))
          ∙ ap (λ (r : List ℕ). pasted r at bytes) was
          ∙ partly_put stride d s _ h eight spoken n bytes
          (view_says stride delta n few size (λ z. w.if-byte-eq0.false (c.byte.ensures ∙ z))) few bytes_long
    ] in
    let more : n + 1 ≡ suc n = omega arith in
    λ s h. rw more (carried s h)

pub returns : goal.returns
returns c =
    let l = c.loop-n in
    let delta = c.args.delta.now in
    let stride = c.args.stride in
    let d = view_of stride delta in
    let e : l.n ≡ 8 = omega arith in
    λ t h. subst (Carries stride (mentions_over d t)) (sym (l.invariant t h ∙ ap (partly stride d t _ h) e))
    (partly_all stride d t _ h (view_eight stride delta) (view_sized stride delta c.requires.0))
