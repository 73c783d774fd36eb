use Rattle.viz_piece_filters.proofs.GrowthLemmas.{parts_grow, parts_start}
use Rattle.viz_piece_filters.proofs.laws.parts_grow.Goals as goal

pub returns-clause-start : goal.returns-clause-start
returns-clause-start c = parts_start

pub returns-clause-grow : goal.returns-clause-grow
returns-clause-grow c = parts_grow
