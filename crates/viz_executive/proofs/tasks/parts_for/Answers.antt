use Rattle.viz_plan.specs.Sites.{known_in}
use Rattle.viz_plan.specs.Published.{need_of}
use Rattle.viz_executive.proofs.FetchLemmas.{parts_are}
use Rattle.viz_executive.proofs.tasks.parts_for.Goals as goal

pub returns : goal.returns
returns c = record {
  parts = parts_are (known_in c.args.ground.now.sites) c.args.ground.now.order c.args.place (need_of c.args.key.now) c.in-Some.request c.in-Some-inputs.places.now c.in_ok-parts.parts.items c.in-Some.ensures c.in-Some-inputs.ensures c.in_ok-parts.ensures.parts;
}
