use Rattle.viz_counted_cells.specs.Sections.{section_of}
use Rattle.viz_counted_cells.proofs.MeetLemmas.{meets-decided}
use Rattle.viz_offset_cells.specs.Offsets.{offset_numbers}
use Rattle.viz_offset_cells.specs.Steps.{offset_section_at}
use Rattle.viz_offset_cells.proofs.RunLaws.{decides-offset_numbers}
use Rattle.viz_offset_cells.proofs.sections.offset_section.Goals as goal

pub returns-clause-meets : goal.returns-clause-meets
returns-clause-meets c = meets-decided section_of (offset_numbers c.args.binary c.args.points) (offset_section_at c.args.binary c.args.points) (decides-offset_numbers c.args.binary c.args.points) c.all_cells.result c.args.lexer.now c.all_cells.new.lexer c.all_cells.ensures
