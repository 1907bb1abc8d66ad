-- The loop: the lines of the first i records are written.
use Prim.Native.Nat.{◌*◌}
use mathlib.Core.List.{map}
use lib.ListN.{take}
use Rattle.laws.specs.Lists.{joined}
use Rattle.slice.specs.Record.{record_size}
use Rattle.table.specs.Header.{stride_of, records_of}
use Rattle.text.specs.Listing.{line_of}
use Rattle.text.specs.Wrote.{Wrote}
use Rattle.text.proofs.lines.put_lines.Given as goal

abbrev pub invariant-loop-i : goal.invariant-loop-i
invariant-loop-i l =
    Wrote (42 * l.i) l.initial.s l.at
    (joined (map (line_of (stride_of l.table)) (take l.i (records_of (record_size (stride_of l.table)) l.table)))) l.s l.end
