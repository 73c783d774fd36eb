use Rattle.viz_meaning.proofs.SectionLemmas.{section-fits, section-names, section-sheet}
use Rattle.viz_meaning.proofs.laws.sections_are_sheets.Goals as goal

pub returns-clause-sheet : goal.returns-clause-sheet
returns-clause-sheet c f s size h names = section-sheet f s size h names

pub returns-clause-names : goal.returns-clause-names
returns-clause-names c f s size h names = section-names f s size h names

pub returns-clause-fits : goal.returns-clause-fits
returns-clause-fits c f s size h names fit = section-fits f s size h names fit
