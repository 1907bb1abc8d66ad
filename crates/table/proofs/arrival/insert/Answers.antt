-- `table::arrival::insert` meets its contract: the count, the gap and the record in it are the table with the record put in.
-- Assumes nothing.
use Prim.Native.Nat.{ℕ, ◌+◌, ◌*◌}
use mathlib.Core.Path.{refl, ◌∙◌, ap}
use mathlib.Core.List.{List}
use Rattle.octets.specs.Writing.{pasted, opened}
use Rattle.table.proofs.TableBytes.{put_in}
use Rattle.table.proofs.arrival.insert.Goals as goal

pub returns : goal.returns
returns c =
    let a = c.args in
    c.put.ensures
    ∙ ap (λ (l : List ℕ). pasted l (32 + a.at * a.size) a.«record».now)
    (c.open_gap.ensures
    ∙ ap (λ (l : List ℕ). opened l (32 + a.at * a.size) (32 + c.from.result * a.size) a.size) c.put16.ensures)
    ∙ rw (c.from.ensures, c.count_of-count.ensures) (put_in _ _ _ _ _ c.requires.2 refl c.requires.0 c.requires.1)
