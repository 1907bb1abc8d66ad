-- `text::lines::put_derived` meets its contract. Assumes nothing.
use Rattle.std.proofs.Common.{◌≤◌, arith}
use Rattle.slice.specs.Record.{record_size}
use Rattle.table.specs.Header.{count_of, stride_of}
use Rattle.table.proofs.Records.{room_most}
use Rattle.text.specs.Listing.{decimal_of}
use Rattle.text.proofs.TextWriting.{then, wrote_most}
use Rattle.text.proofs.lines.put_derived.Goals as goal

pub put_lines-requires : goal.put_lines-requires
put_lines-requires c =
    let t = c.args.table.now in
    let few : count_of t ≤ 256 = omega (arith, c.requires.0, room_most (record_size (stride_of t)) t) in
    (c.requires.0, omega arith)

pub returns : goal.returns
unfolding decimal_of
returns c =
    let t = c.args.table.now in
    let few : count_of t ≤ 256 = omega (arith, c.requires.0, room_most (record_size (stride_of t)) t) in
    let count = rw c.count_of.ensures at c.put_digits-second.ensures in
    wrote_most (omega arith)
    (then (omega arith) c.put_letters-first.ensures
    (then {a = decimal_of (count_of t)} (omega arith) count
    (then (omega arith) c.put_letters-third.ensures c.put_lines.ensures)))
