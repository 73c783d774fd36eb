use Rattle.viz_offset_cells.proofs.RunLaws.{decides-offset_numbers}
use Rattle.viz_offset_cells.proofs.laws.offset_sections_are_decided.Goals as goal

pub returns : goal.returns
returns c = record { section = decides-offset_numbers }
