use Rattle.std.proofs.Common.{[], sym, subst, ◌∙◌}
use Rattle.std.specs.List.{All}
use Rattle.std.proofs.lemmas.List.Elements.{All-cons, All-head, All-nil}
use Rattle.viz_mesh_meaning.specs.Merge.{merged}
use Rattle.viz_sheet.specs.Sheet.{SheetData, IsFit, IsSheet}
use Rattle.viz_node_rules.proofs.meshes.merge_input.Goals as goal

pub whole_mesh-requires : goal.whole_mesh-requires
whole_mesh-requires c =
    let made : SheetData = merged c.in_ok-sheets.sheets.now in
    let all = subst (All IsSheet) (c.sheets.ensures.value ∙ c.in_ok-mesh.ensures.value) c.known.ensures in
    let fits = c.filters_fit.ensures.merge c.in_ok-sheets.sheets.now (All-head IsSheet made [] all) in
    subst (All IsFit) (sym c.in_ok-mesh.ensures.value) (All-cons IsFit made [] fits (All-nil IsFit))
