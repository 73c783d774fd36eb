use Rattle.std.proofs.Common.{◌≡◌, ℕ, List, sym, subst, IfOk}
use Rattle.viz_mesh_read.specs.Poly.{sections_of}
use Rattle.viz_sheet.specs.Arrays.{ranks_in}
use Rattle.viz_file_mesh.proofs.OwnPieces.{polygons_alone}
use Rattle.viz_file_mesh.proofs.polys.poly_ranks.Goals as goal

pub returns : goal.returns
returns c =
    let alone = c.has_polygons_alone.ensures c.if-not-has_polygons_alone.false in
    subst (λ (all : List (List ℕ)). IfOk c.polygon_ranks.result (λ r. ranks_in r ≡ all)) (sym (polygons_alone (sections_of c.args.cells) alone)) c.polygon_ranks.ensures
