use Rattle.std.proofs.Common.{ap, map, arith, ◌∙◌}
use Rattle.viz_flags.specs.Edges.{cells_by}
use Rattle.viz_grid_section.proofs.SectionLemmas.{layers-none, layers-more, layer-within, layer-narrow}
use Rattle.viz_flags.proofs.LayerLemmas.{row_in, plane_in, layers-by}
use Rattle.viz_flags.proofs.layers.section.Goals as goal

pub loop-k-init : goal.loop-k-init
loop-k-init g c =
    let row = row_in c.bounds.result in
    let plane = plane_in c.bounds.result in
    ap (λ items. cells_by row plane (map g.T.Ends.list items)) c.new-out.ensures.items ∙ layers-none _ _ _ _ _

pub overflow_mul-k : goal.overflow_mul-k
overflow_mul-k g c =
    let narrow = layer-narrow c.bounds.result c.args.whole.now c.loop-k.k c.bounds.ensures.value c.bounds.ensures.valid.count c.loop-k-test.true in
    omega arith

pub push_layer-requires-clause-within : goal.push_layer-requires-clause-within
push_layer-requires-clause-within g c =
    layer-within c.bounds.result c.args.whole.now c.loop-k.k _ c.bounds.ensures.value c.requires.full c.loop-k-test.true

pub loop-k-preserved : goal.loop-k-preserved
loop-k-preserved g c =
    layers-more c.args.inside.now _ _ _ _ c.loop-k.k _ _ c.loop-k.invariant c.in_ok-push_layer.ensures

pub returns : goal.returns
returns g c =
    record {
      cells = layers-by c.bounds.result c.args.whole.now c.args.inside.now c.loop-k.k _ c.bounds.ensures.value (omega arith) c.loop-k.invariant;
    }
