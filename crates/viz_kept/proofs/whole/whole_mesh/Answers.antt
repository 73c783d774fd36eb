use Rattle.viz_kept.proofs.WholeLemmas.{mesh_is_whole}
use Rattle.viz_kept.proofs.whole.whole_mesh.Goals as goal

pub returns-clause-part : goal.returns-clause-part
returns-clause-part c =
    mesh_is_whole c.datasets_are_divided.ensures.some c.divisions_share_out.ensures.only
    c.args.sheets.items c.in_ok-parts.parts c.own_parts.ensures.sheets c.in_ok-parts.ensures.parts
