use Rattle.std.proofs.lemmas.List.FromFn.{length-map-range_with_len}
use Rattle.viz_extent.specs.Extent.{count_of}
use Rattle.viz_kuhn.specs.Cubes.{tetrahedra_of}
use Rattle.viz_meaning.specs.Tetrahedra.{leaf_points, point_of_leaf}
use Rattle.viz_meaning.proofs.LeafCells.{leaf-fits, leaf-names, leaves-sheet}
use Rattle.viz_meaning.proofs.TetrahedraLemmas.{tetrahedra-cells}
use Rattle.viz_meaning.proofs.laws.tetrahedra_are_a_sheet.Goals as goal

pub returns-clause-sheet : goal.returns-clause-sheet
returns-clause-sheet c image is =
    let b = image.extent in
    leaves-sheet (count_of b) (leaf_points image) (tetrahedra_of b) (length-map-range_with_len (point_of_leaf image) 0 (count_of b))
    (tetrahedra-cells c.corners_are_the_cubes.ensures.only c.edges_are_steps.ensures.steps b)

pub returns-clause-names : goal.returns-clause-names
returns-clause-names c image = leaf-names (count_of image.extent) (leaf_points image) (tetrahedra_of image.extent)

pub returns-clause-fits : goal.returns-clause-fits
returns-clause-fits c image is =
    leaf-fits (count_of image.extent) (leaf_points image) (tetrahedra_of image.extent)
    (tetrahedra-cells c.corners_are_the_cubes.ensures.only c.edges_are_steps.ensures.steps image.extent)
