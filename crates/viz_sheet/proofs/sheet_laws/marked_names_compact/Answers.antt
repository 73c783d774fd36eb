use Rattle.viz_sheet.proofs.CompactedLemmas.{compacted, some_cells}
use Rattle.viz_sheet.proofs.sheet_laws.marked_names_compact.Goals as goal

pub returns : goal.returns
returns c = record { marked = compacted; some = some_cells }
