-- Each public promise leaves one answer and one content of the lent memory. Of a part that is handed back, the answer is where
-- it points and its bytes. Assumes nothing.
use mathlib.Core.Path.{refl}
use Rattle.laws.specs.OneAnswer.{OneAnswer}
use Rattle.laws.specs.OneAnswer.{OneAnswerAs, shown}
use Rattle.laws.proofs.OneAnswer.{same, both}
use Rattle.state.proofs.Replies.{outcome_told, place_told, source_told, touched_told}
use Rattle.state.proofs.answer.permanent_state.Kinds as permanent-state-k
use Rattle.state.proofs.answer.permanent_state.Reads as permanent-state
use Rattle.state.proofs.answer.snapshot.Kinds as snapshot-k
use Rattle.state.proofs.answer.snapshot.Reads as snapshot
use Rattle.state.proofs.question.locate.Kinds as locate-k
use Rattle.state.proofs.question.locate.Reads as locate
use Rattle.state.proofs.question.source_of.Kinds as source-of-k
use Rattle.state.proofs.question.source_of.Reads as source_of
use Rattle.state.proofs.question.property.Kinds as property-k
use Rattle.state.proofs.question.property.Reads as property
use Rattle.state.proofs.touching.touched.Kinds as touched-k
use Rattle.state.proofs.touching.touched.Reads as touched

pub permanent_state_one : OneAnswer permanent-state-k.ps permanent-state-k.r permanent-state.Asked permanent-state.Learnt
permanent_state_one κs a = (
  tt,
  λ z z' ws ws' p q.
      let e = outcome_told z z' (same p.0 q.0) in
      (e, both refl (both refl (both (same (rw e at p.1) q.1) refl))),
)

pub snapshot_one : OneAnswer snapshot-k.ps snapshot-k.r snapshot.Asked snapshot.Learnt
snapshot_one κs a = (
  tt,
  λ z z' ws ws' p q.
      let e = outcome_told z z' (same p.0 q.0) in
      (e, both refl (both refl (both refl (both (same (rw e at p.1) q.1) refl)))),
)

pub locate_one : OneAnswer locate-k.ps locate-k.r locate.Asked locate.Learnt
locate_one κs a = (tt, λ z z' ws ws' p q. (place_told z z' (same p q), refl))

pub source_of_one : OneAnswer source-of-k.ps source-of-k.r source_of.Asked source_of.Learnt
source_of_one κs a = (tt, λ z z' ws ws' p q. (source_told z z' (same p q), refl))

pub property_one : OneAnswerAs property-k.ps property-k.r (λ κs. shown) property.Asked property.Learnt
property_one κs a = (tt, λ z z' ws ws' p q. (same p q, refl))

pub touched_one : OneAnswer touched-k.ps touched-k.r touched.Asked touched.Learnt
touched_one κs a = (tt, λ z z' ws ws' p q. (touched_told z z' (same p q), refl))
