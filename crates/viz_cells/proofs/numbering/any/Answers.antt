use Rattle.std.proofs.Common.{subst, sym}
use Rattle.viz_cells.specs.Steps.Numbered.{IsNumbered}
use Rattle.viz_cells.proofs.NumberLemmas.{some_numbered}
use Rattle.viz_cells.proofs.numbering.any.Goals as goal

pub returns : goal.returns
returns c = record {
  value =
      subst (IsNumbered c.args.keys.now c.args.piece.now) (sym c.new.ensures.value)
      (some_numbered c.args.keys.now c.args.piece.now c.rank_of.result c.rank_of-2.result c.rank_of-3.result 0 c.requires.most
      c.rank_of.ensures.value c.rank_of-2.ensures.value c.rank_of-3.ensures.value c.rank_of.ensures.below c.rank_of-2.ensures.below c.rank_of-3.ensures.below);
}
