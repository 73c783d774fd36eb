use Rattle.std.proofs.Common.{◌∙◌, ap, ap₂, min}
use Rattle.viz_piece_section.proofs.LeastLemmas.{name-more}
use Rattle.viz_piece_section.specs.Steps.Leaves.{least_of}
use Rattle.viz_piece_section.proofs.cell_levels.least_at.Goals as goal

pub loop-rank-preserved : goal.loop-rank-preserved
loop-rank-preserved c = record {
  value =
      c.lesser-least.ensures.value ∙ ap₂ min c.loop-rank.invariant.value (ap least_of c.name.ensures.value)
      ∙ name-more c.args.sheet.now.names c.args.ranks.now c.loop-rank.rank-index 0 c.loop-rank-test.true;
  most = c.lesser-least.ensures.most;
}
