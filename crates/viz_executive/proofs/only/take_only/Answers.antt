use Rattle.std.proofs.Common.{refl}
use Rattle.viz_executive.proofs.OnlyLemmas.{one_taken}
use Rattle.viz_executive.proofs.only.take_only.Goals as goal

pub returns-then-is_asked : goal.returns-then-is_asked
returns-then-is_asked c =
    one_taken c.args.ground.now c.args.made.now.items c.pop.new.self.items c.in-Some-pop.item _ c.in-Some.node c.in-Some-pop.ensures.items c.requires.items c.in-Some.ensures
    (c.if-is_asked.ensures refl)
