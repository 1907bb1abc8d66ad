-- The promise of each public function leaves one answer and one content of the lent memory. Assumes nothing.
use mathlib.Core.Path.{refl}
use Rattle.laws.specs.OneAnswer.{OneAnswer}
use Rattle.laws.proofs.OneAnswer.{same, both}
use Rattle.baselines.proofs.Replies.{derivation_told}
use Rattle.baselines.proofs.derivation.derive.Kinds as derive-k
use Rattle.baselines.proofs.derivation.derive.Reads as derive

pub derive_one : OneAnswer derive-k.ps derive-k.r derive.Asked derive.Learnt
derive_one κs a = (
  tt,
  λ z z' ws ws' p q.
      let e = derivation_told z z' (same p.0 q.0) in
      (e, both refl (both (same (rw e at p.1) q.1) refl)),
)
