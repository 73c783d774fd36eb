use Rattle.std.proofs.Common.{◌∙◌, ap, sym, subst}
use Rattle.viz_sheet.specs.Arrays.{names_in, points_in, ranks_in}
use Rattle.viz_sheet.specs.Kept.{sheet_with}
use Rattle.viz_sheet.specs.Sheet.{IsFit}
use Rattle.viz_file_mesh.proofs.FitLemmas.{leaf_sheet-fits}
use Rattle.viz_file_mesh.proofs.MeshLemmas.{leaves-cells}
use Rattle.viz_file_mesh.proofs.meshes.leaf_sheet.Goals as goal

pub sheet_of-requires : goal.sheet_of-requires
sheet_of-requires c = record {
  cells = leaves-cells c.args.count (names_in c.in_ok-leaves.leaves) (points_in c.args.places) (ranks_in c.args.ranks) c.in_ok-leaves.ensures.value c.in_ok-leaves.ensures.ascending c.requires.points c.ranges.count.fits c.requires.cells;
}

pub returns-clause-fits : goal.returns-clause-fits
returns-clause-fits c =
    subst IsFit (sym (c.in_ok-sheet.ensures.value ∙ ap (λ names. sheet_with names (points_in c.args.places) (ranks_in c.args.ranks)) c.in_ok-leaves.ensures.value))
    (leaf_sheet-fits c.args.count (points_in c.args.places) (ranks_in c.args.ranks) c.requires.cells)
