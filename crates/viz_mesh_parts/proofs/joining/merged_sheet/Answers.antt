use Rattle.std.proofs.Common.{◌≡◌, ◌∷◌, [], List, subst, arith}
use Rattle.std.specs.Prelude.{IfOk}
use Rattle.viz_mesh_meaning.specs.Merge.{merged}
use Rattle.viz_parts.specs.Parts.{PartSheetData}
use Rattle.viz_piece_divisions.specs.Narrow.{sheets_of_parts}
use Rattle.viz_mesh_parts.proofs.MatchLemmas.{one-item}
use Rattle.viz_mesh_parts.proofs.joining.merged_sheet.Goals as goal

pub returns-in-len1 : goal.returns-in-len1
returns-in-len1 c =
    let only : c.only-item.result ∷ [] ≡ c.args.parts.now = one-item c.args.parts.now c.only-item.result (omega (arith, c.in-len1.len_at_least)) (omega (arith, c.in-len1.len_below)) c.only-item.is in
    subst (λ (parts : List PartSheetData). IfOk c.merge_one.result (λ s. s ≡ merged (sheets_of_parts parts))) only c.merge_one.ensures
