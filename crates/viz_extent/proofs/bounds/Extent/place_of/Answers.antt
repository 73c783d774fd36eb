use Rattle.std.proofs.Common.{arith}
use Rattle.std.proofs.lemmas.Grind.{common_steps}
use Rattle.viz_extent.specs.Extent.{size_x, size_y, size_z}
use Rattle.viz_extent.proofs.NumberingLemmas.{index_at-by_rows, plane_below, number-of_parts, parts-of_index}
use Rattle.viz_extent.proofs.bounds.Extent.place_of.Goals as goal

pub returns-clause-has : goal.returns-clause-has
returns-clause-has c =
    let b = c.args.self.now in
    let in_plane = plane_below c.args.index (size_x b) (size_y b) (size_z b) c.requires.within in
    grind (arith, common_steps)

pub returns-clause-number : goal.returns-clause-number
returns-clause-number c =
    let b = c.args.self.now in
    let again = number-of_parts c.args.index (size_x b) (size_y b) in
    rw index_at-by_rows (grind (arith, common_steps))

pub returns-clause-only : goal.returns-clause-only
returns-clause-only c = λ i j k has number.
    let parts = parts-of_index c.args.self.now i j k c.args.index has number in
    grind (arith, common_steps)
