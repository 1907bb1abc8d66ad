-- `state::writing::put_latest` meets its contract: of the temporary table where a TEMPDELTA mentions it, else of the permanent one.
-- Assumes nothing.
use Prim.Native.Nat.{ℕ, ◌+◌, ◌*◌}
use mathlib.Core.Path.{ap, ◌∙◌}
use borrow.Author.Tests.{eq-eqb, ne_eqb}
use Rattle.octets.specs.Writing.{pasted}
use Rattle.slice.specs.Record.{Slice}
use Rattle.table.specs.Header.{stride_of}
use Rattle.history.specs.Parts.{tells}
use Rattle.state.specs.Steps.{origin_of, said_at, property_by}
use Rattle.state.proofs.Walks.{read_here}
use Rattle.state.proofs.OnePass.{origin_known}
use Rattle.state.proofs.writing.put_latest.Goals as goal

pub put_property-requires-else-over-ne0 : goal.put_property-requires-else-over-ne0
put_property-requires-else-over-ne0 c = (
  c.requires.0,
  (c.requires.1.anchor.whole, rw c.origin.ensures (origin_known _ _ _ _ c.requires.1.anchor.below c.requires.1.below)),
)

pub returns-then-over-ne0 : goal.returns-then-over-ne0
unfolding property_by
returns-then-over-ne0 c = c.put_property.ensures ∙ rw (ne_eqb _ _ c.if-over-ne0.true)

pub returns-else-over-ne0 : goal.returns-else-over-ne0
unfolding property_by
returns-else-over-ne0 c =
    let a = c.args in
    let read =
    read_here c.args.permanent.now c.args.start.place c.record_size.ensures c.record_at-anchor.ensures.bytes
    c.stride_of-stride.ensures
    c.requires.1.anchor.whole c.requires.1.anchor.below in
    c.put_property-else-over-ne0.ensures
    ∙ (ap (λ (k : ℕ). pasted a.«record».now (32 + a.n * stride_of a.permanent.now) (said_at a.permanent.now a.n k))
    (c.origin.ensures ∙ ap (λ (v : Slice). origin_of a.start (tells a.n v) a.under) read.seen)
    ∙ rw (eq-eqb _ _ c.if-over-ne0.false))
