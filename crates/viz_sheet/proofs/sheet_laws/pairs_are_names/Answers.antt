use Rattle.viz_sheet.proofs.PairOrder.{pairs_compare, pairs_ascend}
use Rattle.viz_sheet.proofs.sheet_laws.pairs_are_names.Goals as goal

pub returns : goal.returns
returns c = record { compare = pairs_compare; ascend = pairs_ascend }
