use Rattle.viz_piece_tets.proofs.MoveLemmas.{sheet-stays}
use Rattle.viz_piece_tets.proofs.shifting.shifted.Goals as goal

pub returns-then-by-eq0 : goal.returns-then-by-eq0
returns-then-by-eq0 c = record { value = sheet-stays c.args.by c.args.sheet c.if-by-eq0.true }
