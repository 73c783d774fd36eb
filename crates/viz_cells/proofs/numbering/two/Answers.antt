use Rattle.viz_cells.proofs.NumberLemmas.{two_numbered}
use Rattle.viz_cells.proofs.numbering.two.Goals as goal

pub returns : goal.returns
returns c = record {
  value =
      two_numbered c.args.keys.now c.args.piece.now c.rank.result c.rank-2.result c.requires.size
      c.rank.ensures.value c.rank-2.ensures.value c.rank.ensures.below c.rank-2.ensures.below;
}
