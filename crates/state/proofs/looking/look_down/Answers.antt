-- `state::looking::look_down` meets its contract: the two tests are those of a slice that touches the property. Assumes nothing.
use native.Mathlib.Omega.{arith}
use Rattle.state.proofs.Touches.{look_found, look_past, look_last}
use Rattle.state.proofs.looking.look_down.Goals as goal

pub returns-then-is_holding-mentions : goal.returns-then-is_holding-mentions
returns-then-is_holding-mentions c =
    look_found _ c.requires.0 _ _ c.requires.1 _ c.count_of-count.ensures _ _ c.loop-looked.looked _ c.record_size-size.ensures
    c.stride_of-stride.ensures c.loop-looked.auto.looked c.loop-looked-test.true c.record_at-record.ensures.bytes
    c.loop-looked.invariant _ _ c.is_holding.ensures c.mentions.ensures c.if-is_holding-mentions.true

pub loop-looked-preserved : goal.loop-looked-preserved
loop-looked-preserved c =
    look_past _ c.requires.0 _ _ c.requires.1 _ c.count_of-count.ensures _ _ c.loop-looked.looked _ c.record_size-size.ensures
    c.stride_of-stride.ensures c.loop-looked.auto.looked c.loop-looked-test.true c.record_at-record.ensures.bytes
    c.loop-looked.invariant _ _ c.is_holding.ensures c.mentions.ensures c.if-is_holding-mentions.false

pub returns-else-is_holding-mentions : goal.returns-else-is_holding-mentions
returns-else-is_holding-mentions c =
    look_last _ c.requires.0 _ _ c.requires.1 _ c.count_of-count.ensures _ _ c.loop-looked.looked _ c.record_size-size.ensures
    c.stride_of-stride.ensures c.loop-looked.auto.looked c.loop-looked-test.true c.record_at-record.ensures.bytes
    c.loop-looked.invariant _ _ c.is_holding.ensures c.mentions.ensures (omega arith) c.if-is_holding-mentions.false
