use Rattle.std.proofs.Common.{◌<◌, length, pos, sym, ap, ◌∙◌, arith}
use Rattle.std.specs.Prelude.{int_le}
use Rattle.viz_fraction.specs.Forms.{contour_form}
use Rattle.viz_meaning.specs.Tetrahedra.{point_of_leaf}
use Rattle.viz_grid_section.proofs.LeafLemmas.{inside-leaf}
use Rattle.viz_contour.proofs.EndLemmas.{either-edge, narrow_either, end-leaf}
use Rattle.viz_contour.specs.Steps.Named.{edge_named}
use Rattle.viz_contour.proofs.crossings.point_of_name.Goals as goal

pub cross-requires-clause-apart : goal.cross-requires-clause-apart
cross-requires-clause-apart c = λ same.
    let level = c.args.level.now in
    let image = c.args.image.now in
    let n = edge_named c.args.name.now in
    let within_low : n.low < length image.values.items = omega (arith, c.extent-extent.ensures.valid.count, c.requires.cut.low) in
    let within_high : n.high < length image.values.items = omega (arith, c.extent-extent.ensures.valid.count, c.requires.cut.high) in
    let low = end-leaf level image c.move_to.new.end n.low c.move_to.ensures.end c.move_to.ensures.leaf in
    let high = end-leaf level image c.end_at-high.result n.high c.end_at-high.ensures.end c.end_at-high.ensures.leaf in
    let is_low = inside-leaf level image n.low within_low ∙ ap (λ z. int_le (pos 0) z) (sym low.1) in
    let is_high = inside-leaf level image n.high within_high ∙ ap (λ z. int_le (pos 0) z) (sym high.1) in
    c.requires.cut.apart (is_low ∙ same ∙ sym is_high)

pub returns-clause-value : goal.returns-clause-value
returns-clause-value c =
    let level = c.args.level.now in
    let image = c.args.image.now in
    let n = edge_named c.args.name.now in
    let at = point_of_leaf image in
    let a = c.move_to.new.end in
    let b = c.end_at-high.result in
    let low = end-leaf level image a n.low c.move_to.ensures.end c.move_to.ensures.leaf in
    let high = end-leaf level image b n.high c.end_at-high.ensures.end c.end_at-high.ensures.leaf in
    let same = either-edge (contour_form level) (at n.low) (at n.high) a.point b.point a.above b.above low.1 high.1 low.0 high.0 in
    rw same at c.cross.ensures.value

pub returns-clause-succeeds : goal.returns-clause-succeeds
returns-clause-succeeds c =
    let level = c.args.level.now in
    let image = c.args.image.now in
    let n = edge_named c.args.name.now in
    let a = c.move_to.new.end in
    let b = c.end_at-high.result in
    let low = end-leaf level image a n.low c.move_to.ensures.end c.move_to.ensures.leaf in
    let high = end-leaf level image b n.high c.end_at-high.ensures.end c.end_at-high.ensures.leaf in
    let same = narrow_either (contour_form level) (point_of_leaf image) n a.point b.point a.above b.above low.1 high.1 low.0 high.0 in
    (λ ok. same.0 (c.cross.ensures.succeeds.0 ok), λ narrow. c.cross.ensures.succeeds.1 (same.1 narrow))
