use Rattle.std.proofs.Common.{sym, subst}
use Rattle.viz_inform.specs.Informed.{AreTold}
use Rattle.viz_plan.specs.Told.{extent_told, known_with}
use Rattle.viz_requests.specs.Shapes.{requests_of}
use Rattle.viz_executive.proofs.PlanLemmas.{levels_planned}
use Rattle.viz_executive.proofs.ProduceLemmas.{by_plan, for_all, scratch_is}
use Rattle.viz_executive.proofs.produced.produce.Goals as goal

pub carried-requires-clause-levels : goal.carried-requires-clause-levels
carried-requires-clause-levels g c κs within =
    let told = c.as_slice-told.result.now in
    levels_planned (known_with c.args.net.now told c.args.entries.now) c.args.sink.0 (requests_of (extent_told told c.args.sink.0) c.args.shape.now.pieces) c.in_ok-plan.plan.levels.items c.in_ok-plan.ensures.levels c.in_ok-plan.ensures.stamps

pub returns-in-Ok-carried-clause-dataset : goal.returns-in-Ok-carried-clause-dataset
returns-in-Ok-carried-clause-dataset g c =
    let told = c.as_slice-told.result.now in
    let own = extent_told told c.args.sink.0 in
    let done = c.in-Ok-carried.ensures.carried in
    scratch_is (known_with c.args.net.now told c.args.entries.now) c.args.sink.0 (requests_of own c.args.shape.now.pieces) c.in_ok-plan.plan.levels.items c.in_ok-plan.ensures.levels c.requires.entries
    (for_all own c.args.shape.now.pieces done.some) c.in-Ok-carried.carried done c.plans_are_narrow.ensures.gives

pub returns-in-Ok-carried-clause-plan : goal.returns-in-Ok-carried-clause-plan
returns-in-Ok-carried-clause-plan g c =
    let told = c.as_slice-told.result.now in
    let own = extent_told told c.args.sink.0 in
    let done = c.in-Ok-carried.ensures.carried in
    record {
      told = told;
      are = subst (AreTold c.args.net.now c.args.sink.0) (sym c.as_slice-told.ensures.value) c.in-Ok.ensures.told;
      by = by_plan (known_with c.args.net.now told c.args.entries.now) c.args.sink.0 (requests_of own c.args.shape.now.pieces) c.in_ok-plan.plan.levels.items c.in_ok-plan.ensures.levels c.requires.entries
          (for_all own c.args.shape.now.pieces done.some) c.in-Ok-carried.carried done c.plans_are_narrow.ensures.made c.plans_are_narrow.ensures.gives c.parts_are_passed.ensures.datasets c.in_ok-plan.plan.used c.in_ok-plan.ensures.used c.in_ok-plan.ensures.used_stamps;
    }
