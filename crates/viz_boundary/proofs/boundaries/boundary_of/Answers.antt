use Rattle.std.proofs.Common.{◌∙◌, ap}
use Rattle.std.specs.List.{flat_map}
use Rattle.viz_sheet.specs.Kept.{kept}
use Rattle.viz_mesh_meaning.specs.Facets.{facets_of}
use Rattle.viz_sheet.specs.Arrays.{names_in, points_in, ranks_in}
use Rattle.viz_boundary.proofs.MadeLemmas.{boundary-made, cells-for, facets-are, marks-matched}
use Rattle.viz_boundary.proofs.boundaries.boundary_of.Goals as goal

pub marked_facets-requires-clause-matched : goal.marked_facets-requires-clause-matched
marked_facets-requires-clause-matched c =
    marks-matched (ranks_in c.ranks-ranks.result.now) c.in_ok-marks.marks.items c.deref.result.now c.in_ok-marks.ensures.value c.deref.ensures.value

pub compacted-requires : goal.compacted-requires
compacted-requires c =
    let s = c.args.sheet.now in
    let cells = ranks_in c.ranks-ranks.result.now in
    let is = facets-are s cells (ranks_in c.in_ok-facets.facets) c.in_ok-marks.marks.items c.ranks-ranks.ensures.valid c.in_ok-marks.ensures.few c.in_ok-marks.ensures.value
    (c.in_ok-facets.ensures.value ∙ ap (λ ms. kept ms (flat_map facets_of cells)) c.deref.ensures.value) in
    record {
      cells =
          cells-for s (names_in c.leaves.result.now) (points_in c.places-places.result.now) cells (ranks_in c.in_ok-facets.facets)
          c.ranks-ranks.ensures.valid c.leaves.ensures.value c.places-places.ensures.value is;
    }

pub returns : goal.returns
returns c =
    let s = c.args.sheet.now in
    let cells = ranks_in c.ranks-ranks.result.now in
    let is = facets-are s cells (ranks_in c.in_ok-facets.facets) c.in_ok-marks.marks.items c.ranks-ranks.ensures.valid c.in_ok-marks.ensures.few c.in_ok-marks.ensures.value
    (c.in_ok-facets.ensures.value ∙ ap (λ ms. kept ms (flat_map facets_of cells)) c.deref.ensures.value) in
    record {
      value =
          boundary-made s c.in_ok-made.made (names_in c.leaves.result.now) (points_in c.places-places.result.now) cells (ranks_in c.in_ok-facets.facets)
          c.known.ensures.valid c.known-2.ensures.valid c.ranks-ranks.ensures.valid c.ranks-ranks.ensures.value c.leaves.ensures.value c.places-places.ensures.value is
          c.in_ok-made.ensures.points c.in_ok-made.ensures.cells;
    }
