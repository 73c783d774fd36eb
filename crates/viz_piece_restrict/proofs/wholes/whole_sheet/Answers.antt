use Rattle.viz_piece_restrict.proofs.PieceLemmas.{whole-part}
use Rattle.viz_piece_restrict.proofs.wholes.whole_sheet.Goals as goal

pub returns-clause-part : goal.returns-clause-part
returns-clause-part c = whole-part c.args.sheet c.known.ensures.valid
