use Rattle.viz_script.specs.Orders.{seen}
use Rattle.viz_actor.proofs.ServeLemmas.{commands_mine, commands_others, adds_one, adds_none}
use Rattle.viz_actor.proofs.serving.serve_step.Goals as goal

pub returns-then-step-actor-clause-adds : goal.returns-then-step-actor-clause-adds
returns-then-step-actor-clause-adds g c =
    adds_one g.P.Port c.args.hub.now.mark c.args.pass.number _ (seen c.args.step.now.order) c.serve_order-pass.result.1 c.args.lines.now.items _ c.args.pass.seen c.serve_order-pass.result.0.seen c.args.port.now c.serve_order-pass.new.port
    (commands_mine c.args.actor c.args.step.now c.if-step-actor.true) c.push_reserved.ensures.items c.serve_order-pass.ensures.serves

pub returns-else-step-actor-clause-adds : goal.returns-else-step-actor-clause-adds
returns-else-step-actor-clause-adds g c =
    adds_none g.P.Port c.args.hub.now.mark c.args.pass.number _ c.args.lines.now.items c.args.pass.seen c.args.port.now (commands_others c.args.actor c.args.step.now c.if-step-actor.false)
