use Rattle.std.proofs.Common.{sym, subst, ◌∙◌, ap}
use Rattle.std.specs.Option.{option_copied}
use Rattle.viz_plan.specs.Sites.{known_in}
use Rattle.viz_task_parts.specs.Tasks.{HasParts}
use Rattle.viz_plan.specs.Published.{need_of}
use Rattle.viz_executive.proofs.TaskLemmas.{made, taken}
use Rattle.viz_executive.proofs.tasks.task_part.Goals as goal

pub node_part-requires : goal.node_part-requires
node_part-requires c =
    let ground = c.args.ground.now in
    let k = known_in ground.sites in
    let key = c.args.key.now in
    record {
      taken = taken k ground.sink ground.requests key c.in-Some-node.node.now c.site-site.result.now c.deref.result.now c.known.ensures.update c.requires.planned c.site-site.ensures.site
          (sym c.node.ensures ∙ ap option_copied c.in-Some-node.is)
          (subst (HasParts k (need_of key)) (sym c.deref.ensures.value) c.in_ok-parts.ensures.parts) c.tasks_make_parts.ensures.take;
    }

pub returns : goal.returns
returns c =
    let ground = c.args.ground.now in
    let k = known_in ground.sites in
    let key = c.args.key.now in
    record {
      part = made k ground.sink ground.requests key c.in-Some-node.node.now c.site-site.result.now c.deref.result.now c.known.ensures.update c.requires.planned c.site-site.ensures.site
          (sym c.node.ensures ∙ ap option_copied c.in-Some-node.is)
          (subst (HasParts k (need_of key)) (sym c.deref.ensures.value) c.in_ok-parts.ensures.parts) c.tasks_make_parts.ensures.made c.in_ok-part.part c.in_ok-part.ensures.made;
    }
