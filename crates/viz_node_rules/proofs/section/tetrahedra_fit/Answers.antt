use Rattle.viz_meaning.specs.Tetrahedra.{tetrahedra_sheet}
use Rattle.viz_node_rules.proofs.section.tetrahedra_fit.Goals as goal

pub returns : goal.returns
returns c f =
    let image = c.args.image.now in
    c.sections_are_sheets.ensures.fits f (tetrahedra_sheet image) 1 (c.tetrahedra_are_a_sheet.ensures.sheet image c.extent-extent.ensures.valid)
    (c.tetrahedra_are_a_sheet.ensures.names image) (c.tetrahedra_are_a_sheet.ensures.fits image c.extent-extent.ensures.valid)
