-- `baselines::drawing::draw` meets its contract: the record of a state with another front is that of its BASELINE.
-- Assumes nothing.
use Prim.Native.Nat.{ℕ}
use mathlib.Core.Path.{ap, ◌∙◌}
use mathlib.Core.List.{List, ◌∷◌, ◌++◌}
use lib.ListN.{take}
use Rattle.octets.specs.Writing.{bytes_of, pasted}
use Rattle.baselines.specs.Carried.{record_of}
use Rattle.baselines.proofs.Carried.{carried_drawn}
use Rattle.baselines.proofs.drawing.draw.Goals as goal

pub returns : goal.returns
returns c =
    let a = c.args in
    λ s h.
    c.put_front.ensures
    ∙ ap (λ (d : List ℕ). pasted d 0
    (1 ∷ 0 ∷ 0 ∷ 0 ∷ bytes_of 4 a.sequence.0 ++ (bytes_of 4 a.period.begin.0 ++ bytes_of 4 a.period.end.0)))
    (c.copy_from_slice.ensures.after ∙ ap (λ (n : ℕ). take n a.line.now) c.requires.0)
    ∙ carried_drawn a.stride s (record_of a.stride a.line.now) h a.sequence.0 a.period.begin a.period.end
