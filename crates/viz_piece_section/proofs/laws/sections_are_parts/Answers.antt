use Rattle.viz_piece_section.proofs.SectionLemmas.{parts_are}
use Rattle.viz_piece_section.proofs.laws.sections_are_parts.Goals as goal

pub returns : goal.returns
returns c = record { parts = parts_are c.tets_are_parts.ensures.parts c.filters_chain.ensures.section c.tetrahedra_are_a_sheet.ensures.names }
