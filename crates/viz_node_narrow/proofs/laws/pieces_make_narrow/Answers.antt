use Rattle.viz_node_narrow.proofs.PieceLemmas.{by_pieces, by_slabs, slabs_narrow}
use Rattle.viz_node_narrow.proofs.laws.pieces_make_narrow.Goals as goal

pub returns : goal.returns
returns c =
    let shift = c.sections_of_shifted_sheets.ensures.shift in
    let tets = c.tets_are_parts.ensures.parts in
    let leaves = c.tetrahedra_are_a_sheet.ensures.names in
    let mesh = c.sections_of_pieces_are_narrow.ensures.mesh in
    record {
      mesh = by_pieces mesh;
      image = by_slabs shift tets leaves mesh c.layers_share_out.ensures.all;
      slab = slabs_narrow shift tets leaves c.sections_of_pieces_are_narrow.ensures.piece;
    }
