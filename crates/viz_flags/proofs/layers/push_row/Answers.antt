use Rattle.std.proofs.Common.{arith}
use Rattle.viz_grid_section.proofs.SectionLemmas.{row-none}
use Rattle.viz_flags.proofs.MixedLemmas.{row-some}
use Rattle.viz_flags.proofs.layers.push_row.Goals as goal

pub loop-at-init : goal.loop-at-init
loop-at-init g c = record { within = omega arith; made = row-none _ _ _ _ _ }

pub loop-at-preserved : goal.loop-at-preserved
loop-at-preserved g c = record {
  within = omega (arith, c.min-count.ensures, c.loop-at.invariant.within);
  made = row-some c.args.inside.now _ c.args.plane c.loop-at.at c.min-count.result c.args.first _ _ _ c.loop-at.invariant.made c.in_ok-push_some.ensures;
}
