use Rattle.viz_executive.proofs.wholes.answer.Goals as goal

pub returns-clause-part : goal.returns-clause-part
returns-clause-part c =
    let ground = c.args.ground.now in
    let update = c.known.ensures.update in
    record {
      exact = c.parts_are_passed.ensures.passed ground.sites.net ground.sink c.args.node.0 c.args.request.now c.in_ok-part.part update.placed update.ports c.requires.reached.reached c.in_ok-part.ensures.part;
    }
