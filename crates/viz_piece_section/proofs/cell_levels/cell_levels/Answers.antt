use Rattle.std.proofs.Common.{◌<◌, ◌++◌, [], ◌∷◌, length, ap, ap₂, arith, sym, ◌∙◌}
use Rattle.std.proofs.lemmas.List.{map_more}
use Rattle.viz_piece_layers.specs.Layers.{distance, plane_of}
use Rattle.viz_piece_section.specs.Steps.Leaves.{cell_level}
use Rattle.viz_piece_section.proofs.cell_levels.cell_levels.Goals as goal

pub loop-i-preserved : goal.loop-i-preserved
loop-i-preserved c =
    let whole = c.args.whole.now in
    let own = c.args.own.now in
    let below : c.loop-i.i < length c.args.sheet.now.cells = omega arith in
    c.in_ok-push.ensures.items
    ∙ ap₂ (λ t x. t ++ x ∷ []) c.loop-i.invariant
    (c.distance.ensures.value ∙ ap (distance own.first own.next) (c.plane_of.ensures.value ∙ ap (plane_of whole) c.least_leaf.ensures.value))
    ∙ sym (map_more (cell_level own.first own.next whole) c.args.sheet.now.cells c.loop-i.i [] below)
