-- The promise of each public function leaves one answer and one content of the lent memory. Assumes nothing.
use mathlib.Core.Path.{refl}
use Rattle.laws.specs.OneAnswer.{OneAnswer}
use Rattle.laws.proofs.OneAnswer.{same, both}
use Rattle.text.proofs.Replies.{listing_told}
use Rattle.text.proofs.listing.list.Kinds as list-k
use Rattle.text.proofs.listing.list.Reads as list
use Rattle.text.proofs.listing.say.Kinds as say-k
use Rattle.text.proofs.listing.say.Reads as say

pub list_one : OneAnswer list-k.ps list-k.r list.Asked list.Learnt
list_one κs a = (
  tt,
  λ z z' ws ws' p q.
      let e = listing_told z z' (same p.0 q.0) in
      (e, both refl (both (same (rw e at p.1) q.1) refl)),
)

pub say_one : OneAnswer say-k.ps say-k.r say.Asked say.Learnt
say_one κs a = (
  tt,
  λ z z' ws ws' p q.
      let e = listing_told z z' (same p.0 q.0) in
      (e, both refl (both (same (rw e at p.1) q.1) refl)),
)
