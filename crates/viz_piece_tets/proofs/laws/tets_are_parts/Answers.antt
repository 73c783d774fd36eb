use Rattle.viz_piece_tets.proofs.TetsLemmas.{tets_parts}
use Rattle.viz_piece_tets.proofs.laws.tets_are_parts.Goals as goal

pub returns : goal.returns
returns c = record {
  parts = tets_parts c.tetrahedra_parts_are_parts.ensures.parts c.tetrahedra_parts_are_parts.ensures.sheet c.tetrahedra_are_a_sheet.ensures.sheet;
}
