use Rattle.viz_node_parts.proofs.FedLemmas.{fed_more}
use Rattle.viz_node_parts.proofs.ports.parts_fed.Goals as goal

pub loop-input-preserved : goal.loop-input-preserved
loop-input-preserved c =
    fed_more c.args.inputs.now c.loop-input.input-index c.input-item.result
    c.loop-input.parts.items c.push_part.new.parts.items c.loop-input-test.true c.input-item.is
    c.loop-input.invariant c.in_ok-push_part.ensures
