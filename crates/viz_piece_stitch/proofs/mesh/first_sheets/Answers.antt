use Rattle.std.proofs.Common.{◌≡◌, List, subst}
use Rattle.viz_parts.specs.declared.request.Part.{Part}
use Rattle.viz_piece_stitch.specs.Steps.Columns.{IsJoinedSheet, sheets_at}
use Rattle.viz_piece_stitch.proofs.MeshLemmas.{sheets-more}
use Rattle.viz_piece_stitch.proofs.mesh.first_sheets.Goals as goal

pub loop-sheet-preserved : goal.loop-sheet-preserved
loop-sheet-preserved c =
    let same : c.in_ok-to_vec.field-0.items ≡ c.args.parts.now = c.in_ok-to_vec.ensures.items_if_clones_equal (λ x y h. h) in
    sheets-more c.args.parts.now c.loop-sheet.sheet c.loop-sheet.sheets.items c.in_ok-given_sheet.field-0 c.push.new.self.items c.loop-sheet.invariant
    (subst (λ (ps : List Part). IsJoinedSheet (sheets_at c.loop-sheet.sheet ps) c.in_ok-given_sheet.field-0) same c.in_ok-given_sheet.ensures) c.in_ok-push.ensures.items
