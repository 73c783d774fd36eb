use Rattle.std.proofs.Common.{◌≡◌, ◌∙◌, List, subst}
use Rattle.std.specs.Prelude.{IfOk}
use Rattle.viz_mesh_meaning.specs.Merge.{merged}
use Rattle.viz_sheet.specs.Sheet.{SheetData}
use Rattle.viz_mesh_parts.proofs.joining.merge_several.Goals as goal

pub returns : goal.returns
returns c =
    subst (λ (sheets : List SheetData). IfOk c.merge_of.result (λ s. s ≡ merged sheets)) (c.deref.ensures.value ∙ c.in_ok-sheets.ensures) c.merge_of.ensures
