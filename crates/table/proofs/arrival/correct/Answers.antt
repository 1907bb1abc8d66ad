-- `table::arrival::correct` meets its contract: the record over the one at its place is the table with it in that one's stead.
-- Assumes nothing.
use mathlib.Core.Path.{refl, ◌∙◌}
use borrow.Author.Rules.{rules}
use Rattle.table.proofs.TableBytes.{put_over}
use Rattle.table.proofs.arrival.correct.Goals as goal

pub returns-then-precedes-clause-buffer : goal.returns-then-precedes-clause-buffer
returns-then-precedes-clause-buffer c =
    c.put.ensures ∙ put_over _ _ _ _ _ c.requires.2 refl c.requires.0 c.requires.1 (λ i. search rules)
