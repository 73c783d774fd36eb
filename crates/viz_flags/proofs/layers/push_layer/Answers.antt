use Rattle.viz_grid_section.proofs.SectionLemmas.{layer-none, layer-more}
use Rattle.viz_flags.proofs.layers.push_layer.Goals as goal

pub loop-j-init : goal.loop-j-init
loop-j-init g c = layer-none _ _ _ _ _ _

pub loop-j-preserved : goal.loop-j-preserved
loop-j-preserved g c =
    layer-more c.args.inside.now _ _ c.args.across_x c.loop-j.j c.args.first _ _ _ c.loop-j.invariant c.in_ok-push_row.ensures
