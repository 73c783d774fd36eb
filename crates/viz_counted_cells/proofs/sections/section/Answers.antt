use Rattle.viz_counted_cells.specs.Sections.{section_of, section_numbers}
use Rattle.viz_counted_cells.specs.Steps.{section_at}
use Rattle.viz_counted_cells.proofs.MeetLemmas.{meets-decided}
use Rattle.viz_counted_cells.proofs.SectionLaws.{decides-section_numbers}
use Rattle.viz_counted_cells.proofs.sections.section.Goals as goal

pub returns-clause-meets : goal.returns-clause-meets
returns-clause-meets c = meets-decided section_of (section_numbers c.args.binary c.args.points) (section_at c.args.binary c.args.points) (decides-section_numbers c.args.binary c.args.points) c.all_cells.result c.args.lexer.now c.all_cells.new.lexer c.all_cells.ensures
