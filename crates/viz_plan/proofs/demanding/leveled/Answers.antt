use Rattle.std.proofs.Common.{ap, ◌∙◌}
use Rattle.std.proofs.lemmas.List.{length-map}
use Rattle.viz_plan_walk.specs.Leveling.{levelled}
use Rattle.viz_plan_walk.specs.Walk.{named}
use Rattle.viz_plan.proofs.DemandLemmas.{levels_are, used_are}
use Rattle.viz_plan.proofs.demanding.leveled.Goals as goal

pub returns-clause-levels : goal.returns-clause-levels
returns-clause-levels c =
    let s = c.in_ok-sites.ensures in
    levels_are c.in_ok-sites.sites c.args.net.now c.args.told.now c.args.entries.now s.net s.told s.entries c.args.sink.0 c.args.requests.now _ _ _ _
    (ap named c.deref-5.ensures.value ∙ c.in_ok-walked.ensures.tasks)
    (ap levelled c.deref-6.ensures.value ∙ c.in_ok-table.ensures.value)
    (length-map c.in_ok-levels.levels.items (λ v. named v.items))
    c.in_ok-levels.ensures.each c.in_ok-levels.ensures.under

pub returns-clause-used : goal.returns-clause-used
returns-clause-used c =
    let s = c.in_ok-sites.ensures in
    used_are c.in_ok-sites.sites c.args.net.now c.args.told.now c.args.entries.now s.net s.told s.entries c.args.sink.0 c.args.requests.now _
    c.in_ok-walked.ensures.used
