use Rattle.viz_meaning.proofs.NarrowLemmas.{narrow-cells, narrow-section}
use Rattle.viz_meaning.proofs.laws.sections_are_wide_in_a_cell.Goals as goal

pub returns : goal.returns
returns c = record { cells = λ f s size h names. (narrow-cells f s size h names, narrow-section f s size h names) }
