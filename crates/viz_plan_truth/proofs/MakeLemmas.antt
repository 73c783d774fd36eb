-- Where a plan came out, its tasks made parts that their nodes give from scratch.
use Rattle.std.proofs.Common.{Option, None, Some, Ok}
use Rattle.viz_network.specs.Cone.{Cone, Tree, none, empty, fed, cone_of, port}
use Rattle.viz_node_division.specs.Laws.{DividedAreExact}
use Rattle.viz_node_meaning.specs.Information.{InformationRule}
use Rattle.viz_node_narrow.specs.Nodes.{AreNarrowAt, IsNarrowCone, NarrowAreGiven}
use Rattle.viz_plan_truth.specs.Truth.{PlansAreNarrow, PlansMakeParts}
use Rattle.viz_plan_truth.proofs.NeedLemmas.{AllHave, task_has}
use Rattle.viz_plan_truth.proofs.ValueLemmas.{HasValue, cone_values}

-- no number is wide at the foot of a cone and upstream of it
record IsNarrow (t : Option Tree) : Type 0 where
  cone : IsNarrowCone t

ports_narrow : (c : Cone) → AreNarrowAt c → AllHave IsNarrow c
ports_narrow none h = tt
ports_narrow (empty others) h = ports_narrow others h
ports_narrow (fed n own others) h =
    (record { cone = (h.0, h.1) }, ports_narrow own h.1, ports_narrow others h.2)

all_narrow : (t : Option Tree) → IsNarrowCone t → AllHave IsNarrow (port t none)
all_narrow None h = tt
all_narrow (Some t) h = (record { cone = h }, ports_narrow t.1 h.1, tt)

pub plans_make : NarrowAreGiven → DividedAreExact → PlansAreNarrow → PlansMakeParts
plans_make given exact narrow k sink rs came i told task in_plan part made =
    let cone = cone_of k.net sink in
    let is = task_has k IsNarrow sink rs task came.placed came.ports
    (all_narrow cone (narrow k sink rs came)) in_plan in
    let known = task_has k (HasValue InformationRule) sink rs task came.placed came.ports
    (cone_values InformationRule cone i told) in_plan in
    let whole = made.exact.whole in
    let one = made.exact.one in
    record {
      whole = whole;
      given = (
        Ok known.value,
        known.given,
        given (cone_of k.net task.0) whole
            (exact (cone_of k.net task.0) whole one.division one.divided) is.cone,
      );
      one = one;
    }
