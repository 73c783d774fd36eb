use Rattle.std.proofs.Common.{◌∙◌, ap, subst}
use Rattle.viz_extent.specs.Extent.{count_of}
use Rattle.viz_dataset.specs.Images.{IsImage}
use Rattle.viz_kuhn.specs.Cubes.{tetrahedra_of}
use Rattle.viz_sheet.specs.Arrays.{names_in, points_in}
use Rattle.viz_sheet.specs.Ranked.{leaf_names}
use Rattle.viz_tets.proofs.LeafLemmas.{tets-cells, tets-sheet}
use Rattle.viz_tets.proofs.tetrahedra.sheet_by.Goals as goal

pub sheet_of-requires : goal.sheet_of-requires
sheet_of-requires c =
    let extent = c.extent-whole.ensures.value in
    record {
      cells =
          tets-cells c.corners_are_the_cubes.ensures.only c.edges_are_steps.ensures.steps c.args.image.now (names_in c.in_ok-leaves.leaves) (points_in c.in_ok-places.places) c.in_ok-cells.field-0.items
          c.extent-whole.ensures.valid (c.in_ok-leaves.ensures.value ∙ ap leaf_names (c.count.ensures.value ∙ ap count_of extent)) c.in_ok-places.ensures.value (c.in_ok-cells.ensures.value ∙ ap tetrahedra_of extent);
    }

pub returns : goal.returns
returns c =
    let extent = c.extent-whole.ensures.value in
    record {
      value =
          tets-sheet c.args.image.now c.in_ok-sheet.sheet (names_in c.in_ok-leaves.leaves) (points_in c.in_ok-places.places) c.in_ok-cells.field-0.items
          (c.in_ok-leaves.ensures.value ∙ ap leaf_names (c.count.ensures.value ∙ ap count_of extent)) c.in_ok-places.ensures.value (c.in_ok-cells.ensures.value ∙ ap tetrahedra_of extent) c.in_ok-sheet.ensures.value;
    }
