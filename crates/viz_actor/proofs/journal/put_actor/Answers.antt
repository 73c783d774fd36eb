use Rattle.viz_actor.proofs.FoundLemmas.{found_told}
use Rattle.viz_actor.proofs.journal.put_actor.Goals as goal

pub returns : goal.returns
returns c = λ actors tells h. found_told c.args.found.now actors c.args.row.now c.in-Edit.at c.in-Edit.is c.if-at-eq0.false c.if-at-found.false tells h
