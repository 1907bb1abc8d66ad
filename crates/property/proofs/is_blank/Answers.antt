-- `property::is_blank` meets its contract: one run of zeros and the next. Assumes nothing.
use Rattle.octets.proofs.Runs.{filled_join}
use Rattle.property.proofs.is_blank.Goals as goal

pub returns : goal.returns
returns c = rw (c.blank8-3.ensures, c.blank8-2.ensures, c.blank8.ensures, filled_join 0 8 8 _ 8)
