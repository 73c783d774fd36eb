use Rattle.viz_lex.proofs.DecidedLemmas.{IsDefinite-decided}
use Rattle.viz_counted_cells.specs.Sections.{section}
use Rattle.viz_counted_cells.proofs.SectionLaws.{section_list_at, decides-section}
use Rattle.viz_counted_cells.proofs.laws.counted_sections_are_definite.Goals as goal

pub returns : goal.returns
returns c = record { section = λ binary n. IsDefinite-decided (section binary n) (section_list_at binary n) (decides-section binary n) }
