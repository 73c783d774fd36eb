use Rattle.viz_lex.proofs.DecidedLemmas.{IsDefinite-decided}
use Rattle.viz_offset_cells.specs.Offsets.{offset_section}
use Rattle.viz_offset_cells.proofs.OffsetLaws.{section_list_at, decides-offset_section}
use Rattle.viz_offset_cells.proofs.laws.offset_sections_are_definite.Goals as goal

pub returns : goal.returns
returns c = record { section = λ binary n. IsDefinite-decided (offset_section binary n) (section_list_at binary n) (decides-offset_section binary n) }
