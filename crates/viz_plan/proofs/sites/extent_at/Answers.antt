use Rattle.std.proofs.Common.{◌≡◌, ◌∙◌}
use Rattle.viz_plan.specs.ByNode.{extent_shown}
use Rattle.viz_plan.proofs.SiteLemmas.{extent_here, extent_nowhere}
use Rattle.viz_plan.proofs.sites.extent_at.Goals as goal

pub returns-in-Some : goal.returns-in-Some
returns-in-Some c =
    c.extent_shown.ensures
    ∙ extent_here (extent_shown c.args.shown.now) c.args.steps.now c.args.place c.in-Some.step.now c.in-Some.ensures.lookup.3.0 c.in-Some.ensures.lookup.1

pub returns-in-None : goal.returns-in-None
returns-in-None c = extent_nowhere (extent_shown c.args.shown.now) c.args.steps.now c.args.place c.in-None.ensures.lookup.3
