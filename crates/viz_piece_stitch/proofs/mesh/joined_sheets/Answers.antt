use Rattle.std.proofs.Common.{◌-◌, List, subst, rules}
use Rattle.viz_parts.specs.declared.request.Part.{Part}
use Rattle.viz_piece_stitch.specs.Steps.Columns.{AreJoinedSheets}
use Rattle.viz_piece_stitch.proofs.MeshLemmas.{sheets-last}
use Rattle.viz_piece_stitch.proofs.mesh.joined_sheets.Goals as goal

pub returns : goal.returns
returns c =
    sheets-last c.args.parts.items c.args.count c.in_ok-sheets.sheets.items c.in_ok-given_sheet.field-0 c.push.new.self.items (search rules)
    (subst (λ (ps : List Part). AreJoinedSheets (c.args.count - 1) ps c.in_ok-sheets.sheets.items) c.deref.ensures.value c.in_ok-sheets.ensures) c.in_ok-given_sheet.ensures c.in_ok-push.ensures.items
