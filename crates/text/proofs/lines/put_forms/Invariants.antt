-- The loop: the forms of the first i properties are written.
use mathlib.Core.List.{map}
use lib.ListN.{take}
use Rattle.slice.specs.Record.{parts_of}
use Rattle.text.specs.Listing.{form_of}
use Rattle.text.specs.Wrote.{Wrote}
use Rattle.text.proofs.lines.put_forms.Given as goal

abbrev pub invariant-loop-i : goal.invariant-loop-i
invariant-loop-i l = Wrote l.i l.initial.s l.at (map form_of (take l.i (parts_of l.stride l.«record»))) l.s l.end
