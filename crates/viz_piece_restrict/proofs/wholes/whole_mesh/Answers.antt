use Rattle.std.proofs.Common.{List, subst}
use Rattle.viz_parts.specs.declared.request.Part.TheVariants.{Mesh}
use Rattle.viz_sheet.specs.Sheet.{SheetData}
use Rattle.viz_piece_restrict.specs.Steps.Cuts.{AreWholes}
use Rattle.viz_piece_restrict.proofs.CutLemmas.{some-whole_mesh}
use Rattle.viz_piece_restrict.proofs.wholes.whole_mesh.Goals as goal

pub returns-clause-answers : goal.returns-clause-answers
returns-clause-answers c =
    some-whole_mesh c.args.mesh (Mesh c.in_ok-parts.parts) tt
    (subst (λ (sheets : List SheetData). AreWholes sheets c.in_ok-parts.parts.items) c.into_sheets.ensures.value c.in_ok-parts.ensures)
