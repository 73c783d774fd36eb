use Rattle.std.proofs.Common.{All, List, subst, ◌∙◌}
use Rattle.viz_parts.specs.declared.request.Part.{Part}
use Rattle.viz_piece_stitch.specs.Steps.Columns.{IsMeshOf}
use Rattle.viz_piece_stitch.proofs.MeshLemmas.{joined-all, same-count}
use Rattle.viz_piece_stitch.proofs.mesh.joined_mesh.Goals as goal

pub returns : goal.returns
returns c = λ sheets are.
    let counts : All (IsMeshOf c.sheet_count-count.result) c.args.parts.items =
    subst (λ (ps : List Part). All (IsMeshOf c.sheet_count-count.result) ps) c.deref.ensures.value c.sheet_count-count.ensures in
    c.new.ensures.value ∙ joined-all sheets c.args.parts.items are c.sheet_count-count.result c.in_ok-joined_sheets.field-0.items (same-count c.args.parts.items sheets c.sheet_count-count.result are counts) c.in_ok-joined_sheets.ensures
