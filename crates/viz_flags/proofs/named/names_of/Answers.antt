use Rattle.std.proofs.Common.{arith}
use Rattle.viz_flags.proofs.NameLemmas.{names_grow, names_all}
use Rattle.viz_flags.proofs.named.names_of.Goals as goal

pub loop-leaf-preserved : goal.loop-leaf-preserved
loop-leaf-preserved c =
    names_grow c.args.first c.args.row c.args.plane c.args.flags.now c.loop-leaf.leaf _ _ c.loop-leaf-test.true c.loop-leaf.invariant c.in_ok-push_some.ensures

pub returns : goal.returns
returns c = names_all c.args.first c.args.row c.args.plane c.args.flags.now c.loop-leaf.leaf _ (omega arith) c.loop-leaf.invariant
