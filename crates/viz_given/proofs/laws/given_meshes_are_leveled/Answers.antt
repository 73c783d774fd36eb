use Rattle.viz_given.proofs.FileLemmas.{reads_leveled}
use Rattle.viz_given.proofs.RowLemmas.{all_fit, all_leveled}
use Rattle.viz_given.proofs.SheetLemmas as lemma
use Rattle.viz_given.proofs.laws.given_meshes_are_leveled.Goals as goal

pub returns : goal.returns
returns c =
    let images =
    lemma.tetrahedra c.corners_are_the_cubes.ensures.only c.edges_are_steps.ensures.steps in
    let read = c.read_pieces_are_cells.ensures in
    let reads = reads_leveled read.grid read.polydata images in
    let made = c.sections_are_sheets.ensures in
    let fits = c.filters_fit.ensures in
    let selection =
    lemma.selection c.selections_are_cell_by_cell.ensures.sheet fits.selection in
    let section = lemma.section made.sheet made.names made.fits in
    let boundary = lemma.boundary c.boundaries_have_facets.ensures.sheet fits.boundary in
    let merge = lemma.merge c.merges_are_sheets.ensures.sheet fits.merge in
    record {
      leveled = all_leveled images reads selection section boundary merge;
      fit = all_fit images reads selection section boundary merge;
    }
