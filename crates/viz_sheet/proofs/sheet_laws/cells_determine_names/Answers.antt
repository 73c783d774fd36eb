use Rattle.viz_sheet.proofs.SheetLemmas.{same_names}
use Rattle.viz_sheet.proofs.sheet_laws.cells_determine_names.Goals as goal

pub returns : goal.returns
returns c = record { names = same_names }
