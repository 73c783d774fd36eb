use Rattle.std.proofs.Common.{◌≡◌, [], ◌∷◌, ◌++◌, IfOk, List, get_or, ap, sym, subst, ◌∙◌}
use Rattle.viz_parts.specs.Stitching.{ArePiecesOf}
use Rattle.viz_parts.specs.declared.request.Part.{Part}
use Rattle.viz_parts.specs.declared.request.Part.TheVariants.{Mesh}
use Rattle.viz_sheet.specs.Sheet.{SheetData}
use Rattle.viz_piece_stitch.proofs.ListLemmas.{only_last}
use Rattle.viz_piece_stitch.proofs.MeshLemmas.{only-mesh}
use Rattle.viz_piece_stitch.proofs.mesh.only_mesh.Goals as goal

pub returns-in_ok-sheets_of-in-Ok-Mesh : goal.returns-in_ok-sheets_of-in-Ok-Mesh
returns-in_ok-sheets_of-in-Ok-Mesh c = λ sheets are.
    let part = Mesh c.in-Ok-Mesh.sheets in
    let only = only_last c.args.parts.items c.pop.new.self.items c.in-Some.part c.requires.one c.in-Some.ensures.items in
    let at : get_or c.args.parts.items 0 part ≡ part = ap (λ (ps : List Part). get_or ps 0 part) only ∙ sym c.in-Ok-Mesh.ensures.ok ∙ c.in-Ok-Mesh.field-0-is in
    c.new.ensures.value ∙ c.in_ok-sheets_of-in-Ok-Mesh.ensures ∙ only-mesh sheets c.args.parts.items are part c.requires.one at

pub returns-in_ok-push-in-Err : goal.returns-in_ok-push-in-Err
returns-in_ok-push-in-Err c =
    let back : c.push.new.self.items ≡ c.args.parts.items =
    c.in_ok-push-in-Err.ensures.items ∙ ap (λ (p : Part). c.pop.new.self.items ++ p ∷ []) c.in-Err.ensures.err ∙ sym c.in-Some.ensures.items in
    subst (λ (ps : List Part). IfOk c.joined_mesh.result (λ mesh. (sheets : List SheetData) → ArePiecesOf sheets ps → mesh ≡ sheets)) back c.joined_mesh.ensures
