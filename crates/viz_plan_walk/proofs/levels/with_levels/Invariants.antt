use Rattle.std.proofs.Common.{◌≡◌, ◌++◌, [], drop}
use Rattle.viz_requests.specs.Serving.{serves}
use Rattle.viz_plan_meaning.specs.Laws.{inputs_of}
use Rattle.viz_plan_meaning.specs.Levels.{with_levels}
use Rattle.viz_plan_walk.specs.Leveling.{levelled}
use Rattle.viz_plan_walk.specs.Walk.{named}
use Rattle.viz_plan_walk.proofs.levels.with_levels.Given as goal

abbrev pub invariant-loop-need : goal.invariant-loop-need
invariant-loop-need g l =
    let rules = g.A.Asking in
    levelled l.table ++ with_levels serves (rules.kept l.asking) (rules.widened l.asking) (rules.asked l.asking) (inputs_of l.net) (levelled l.table) (named (drop l.need-index l.plan))
    ≡ with_levels serves (rules.kept l.asking) (rules.widened l.asking) (rules.asked l.asking) (inputs_of l.net) [] (named l.plan)
