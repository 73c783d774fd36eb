use Rattle.viz_counted_cells.proofs.SectionLaws.{decides-section_numbers}
use Rattle.viz_counted_cells.proofs.laws.counted_sections_are_decided.Goals as goal

pub returns : goal.returns
returns c = record { section = decides-section_numbers }
