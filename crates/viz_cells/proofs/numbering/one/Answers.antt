use Rattle.viz_cells.proofs.NumberLemmas.{one_numbered}
use Rattle.viz_cells.proofs.numbering.one.Goals as goal

pub returns : goal.returns
returns c = record {
  value =
      one_numbered c.args.keys.now c.args.piece.now c.rank.result c.requires.size
      c.rank.ensures.value c.rank.ensures.below;
}
