use Rattle.viz_executive.proofs.PublishedLemmas.{of_plan}
use Rattle.viz_account.proofs.parts.parts_of.Goals as goal

pub all_or_none-made-requires-clause-made : goal.all_or_none-made-requires-clause-made
all_or_none-made-requires-clause-made c = c.requires.plan.by.parts

pub all_or_none-made-requires-clause-only : goal.all_or_none-made-requires-clause-only
all_or_none-made-requires-clause-only c = c.requires.plan.by.only

pub returns-clause-plan : goal.returns-clause-plan
returns-clause-plan c =
    of_plan c.args.net.now c.args._entries.now c.args.sink.0 c.args._shape.now.pieces c.args.produced
    c.all_or_none-made.result.items c.requires.plan c.all_or_none-made.ensures.keys
    c.all_or_none-made.ensures.made
