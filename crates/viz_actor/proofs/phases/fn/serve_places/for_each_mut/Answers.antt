use Rattle.viz_actor.proofs.phases.fn.serve_places.for_each_mut.Goals as goal

pub serve_place-requires-clause-ready : goal.serve_place-requires-clause-ready
serve_place-requires-clause-ready g c κs within = c.requires.ready
