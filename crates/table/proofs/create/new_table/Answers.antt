-- `table::create::new_table` meets its contract: three parts, one behind the other, are the header. Assumes nothing.
use Prim.Native.Nat.{ℕ}
use mathlib.Core.Path.{◌∙◌, ap}
use mathlib.Core.List.{List}
use lib.ListN.{replicate}
use borrow.Author.Rules.{rules}
use Rattle.octets.specs.Writing.{pasted}
use Rattle.table.proofs.NewTable.{header_written}
use Rattle.table.proofs.create.new_table.Goals as goal

pub returns-clause-buffer : goal.returns-clause-buffer
returns-clause-buffer c =
    c.put-3.ensures
    ∙ ap (λ (l : List ℕ). pasted l 24 (replicate 8 0))
    (c.put-2.ensures ∙ ap (λ (l : List ℕ). pasted l 8 c.args.feature.now) c.put.ensures)
    ∙ header_written _ _ c.if-table-lt32.false _ (search rules)
