use Rattle.std.proofs.Common.{◌≡◌, drop, max}
use Rattle.viz_network.specs.Step.{nodes_of}
use Rattle.viz_requests.specs.Serving.{serves}
use Rattle.viz_plan_walk.specs.Leveling.{above_by, levelled}
use Rattle.viz_plan_walk.proofs.levels.above_ports.Given as goal

abbrev pub invariant-loop-place : goal.invariant-loop-place
invariant-loop-place g l =
    let rules = g.A.Asking in
    above_by serves (rules.kept l.asking) (rules.widened l.asking) (nodes_of l.steps) (levelled l.table) l.request l.places
    ≡ max l.level (above_by serves (rules.kept l.asking) (rules.widened l.asking) (nodes_of l.steps) (levelled l.table) l.request (drop l.place-index l.places))
