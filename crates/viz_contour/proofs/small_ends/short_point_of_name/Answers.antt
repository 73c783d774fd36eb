use Rattle.std.proofs.Common.{◌<◌, length, pos, sym, ap, ◌∙◌, arith}
use Rattle.std.specs.Prelude.{int_le}
use Rattle.viz_fraction.specs.Forms.{contour_form}
use Rattle.viz_meaning.specs.Tetrahedra.{point_of_leaf}
use Rattle.viz_grid_section.proofs.LeafLemmas.{inside-leaf}
use Rattle.viz_contour.proofs.EndLemmas.{narrow_either, small_end-leaf, on_some_also}
use Rattle.viz_contour.specs.Steps.Named.{edge_named}
use Rattle.viz_contour.proofs.small_ends.short_point_of_name.Goals as goal

pub cross-requires : goal.cross-requires
cross-requires c =
    let level = c.args.level.now in
    let image = c.args.image.now in
    let n = edge_named c.args.name.now in
    let within_low : n.low < length image.values.items = omega (arith, c.extent-extent.ensures.valid.count, c.requires.cut.low) in
    let within_high : n.high < length image.values.items = omega (arith, c.extent-extent.ensures.valid.count, c.requires.cut.high) in
    let low = small_end-leaf level image c.move_to.new.end n.low c.in_ok-move_to.ensures.end c.in_ok-move_to.ensures.leaf in
    let high = small_end-leaf level image c.in_ok-high.high n.high c.in_ok-high.ensures.end c.in_ok-high.ensures.leaf in
    let is_low = inside-leaf level image n.low within_low ∙ ap (λ z. int_le (pos 0) z) (sym low.1) in
    let is_high = inside-leaf level image n.high within_high ∙ ap (λ z. int_le (pos 0) z) (sym high.1) in
    record { apart = λ same. c.requires.cut.apart (is_low ∙ same ∙ sym is_high) }

pub returns-clause-narrow : goal.returns-clause-narrow
returns-clause-narrow c =
    let level = c.args.level.now in
    let image = c.args.image.now in
    let n = edge_named c.args.name.now in
    let a = c.move_to.new.end in
    let b = c.in_ok-high.high in
    let low = small_end-leaf level image a n.low c.in_ok-move_to.ensures.end c.in_ok-move_to.ensures.leaf in
    let high = small_end-leaf level image b n.high c.in_ok-high.ensures.end c.in_ok-high.ensures.leaf in
    let same = narrow_either (contour_form level) (point_of_leaf image) n a.point b.point a.above b.above low.1 high.1 low.0 high.0 in
    on_some_also c.cross.result same.0 c.cross.ensures.narrow
