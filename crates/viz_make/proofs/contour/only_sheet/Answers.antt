use Rattle.viz_make.specs.Views.{make_of}
use Rattle.viz_make.specs.Steps.Contouring.{contour_again}
use Rattle.viz_make.proofs.MadeLemmas.{first_is}
use Rattle.viz_make.proofs.contour.only_sheet.Goals as goal

pub returns : goal.returns
returns c =
    first_is c.args.dataset.now c.in-Mesh.mesh c.sheets.result.now (contour_again (make_of c.args._command.now)) c.sheet-item.result
    c.in-Mesh.is c.requires.contour c.sheets.ensures.value c.sheet-item.is
