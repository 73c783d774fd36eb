use Rattle.std.proofs.Common.{length}
use Rattle.viz_file_mesh.proofs.grids.+repeats_none.Given as goal

abbrev pub decreases-repeats_none : goal.decreases-repeats_none
decreases-repeats_none l = length l.cell.now
