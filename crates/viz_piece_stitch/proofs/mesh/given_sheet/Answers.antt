use Rattle.std.proofs.Common.{sym, subst}
use Rattle.viz_piece_stitch.specs.Steps.Columns.{AreSheets}
use Rattle.viz_piece_stitch.proofs.MeshLemmas.{column-sheets}
use Rattle.viz_piece_stitch.proofs.mesh.given_sheet.Goals as goal

pub joined_sheet-requires : goal.joined_sheet-requires
joined_sheet-requires c = record {
  sheets = subst AreSheets (sym c.in_ok-parts_of.ensures) (column-sheets c.args.parts.items c.args.count c.args.sheet c.requires.pieces c.requires.meshes c.requires.within);
}
