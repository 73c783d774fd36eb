use Rattle.std.proofs.Common.{sym}
use Rattle.viz_offset_cells.proofs.BlockLoops.{steps-count}
use Rattle.viz_offset_cells.proofs.cuts.Cuts.cells.Goals as goal

pub returns-in-Steps : goal.returns-in-Steps
returns-in-Steps c = rw c.in-Steps.is (sym (steps-count c.in-Steps.field-0 c.in-Steps.cells))
