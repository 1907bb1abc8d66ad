-- `text::lines::put_lines` meets its contract. Assumes nothing.
use Rattle.std.proofs.Common.{◌≡◌, ◌+◌, ◌*◌, ◌<◌, [], ◌∙◌, arith}
use lib.ListN.{get_or}
use lib.Seq.{take_all}
use Rattle.slice.specs.Record.{record_size}
use Rattle.table.specs.Header.{count_of, stride_of, records_of}
use Rattle.table.proofs.Records.{records_length, record_is}
use Rattle.state.proofs.Walks.{read_by}
use Rattle.text.specs.Listing.{line_of}
use Rattle.text.proofs.TextWriting.{then, wrote_none, lines_more}
use Rattle.text.proofs.lines.put_lines.Goals as goal

pub loop-i-init : goal.loop-i-init
loop-i-init c = wrote_none _ _ (omega (arith, c.requires.1))

pub put_line-end-requires : goal.put_line-end-requires
put_line-end-requires c =
    let w = c.loop-i.invariant in
    let more : c.loop-i.i < count_of c.args.table.now = omega arith in (
      omega (arith, more, c.loop-i.auto.s, w.next, w.few, c.requires.1),
      (omega (arith, c.stride_of-stride.ensures), omega (arith, c.stride_of-stride.ensures)),
    )

pub loop-i-preserved : goal.loop-i-preserved
loop-i-preserved c =
    let t = c.args.table.now in
    let l = c.loop-i in
    let more : l.i < count_of t = omega arith in
    let read =
    read_by t l.i c.record_size-size.ensures c.record_at.ensures.bytes
    ∙ record_is (record_size (stride_of t)) t l.i more c.requires.0 in
    let line : line_of c.stride_of-stride.result c.record_at.result.now
    ≡ line_of (stride_of t) (get_or (records_of (record_size (stride_of t)) t) l.i []) =
    λ j. line_of (c.stride_of-stride.ensures j) (read j) in
    let k : 42 * l.i + 42 ≡ 42 * (l.i + 1) = omega arith in
    rw (
      lines_more (line_of (stride_of t)) (records_of (record_size (stride_of t)) t) l.i
          (omega (arith, more, records_length (record_size (stride_of t)) t)),
      ← k,
    )
    (then (omega (arith, more, c.requires.1)) l.invariant (rw line at c.put_line-end.ensures))

pub returns : goal.returns
returns c =
    let t = c.args.table.now in
    let e : c.loop-i.i ≡ count_of t = omega arith in
    let all =
    take_all (count_of t) (records_of (record_size (stride_of t)) t) (omega (arith, records_length (record_size (stride_of t)) t)) in
    rw (e, all) at c.loop-i.invariant
