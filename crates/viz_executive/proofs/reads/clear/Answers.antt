use Rattle.viz_executive.proofs.TableLemmas.{exact_clear}
use Rattle.viz_executive.proofs.reads.clear.Goals as goal

pub returns-then-place-len : goal.returns-then-place-len
returns-then-place-len c = λ net h.
    exact_clear net c.args.table.now.items c.args.place c.clear.new.self c.clear.ensures.items h
