use Rattle.viz_counted_cells.proofs.IndexLaws.{section-below}
use Rattle.viz_counted_cells.proofs.laws.counted_indices_are_those_of_points.Goals as goal

pub returns : goal.returns
returns c = record { section = section-below }
