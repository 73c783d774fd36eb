use Rattle.std.proofs.Common.{Ok, Err, refl, subst}
use Rattle.viz_network.specs.Cone.{cone_of}
use Rattle.viz_node_meaning.specs.Data.{DataRule}
use Rattle.viz_node_meaning.specs.Fold.{IsGiven}
use Rattle.viz_node_meaning.specs.Information.{InformationRule}
use Rattle.viz_inform.specs.Informed.{IsInformedAs}
use Rattle.viz_scratch.proofs.evaluation.scratch.Goals as goal

pub returns-in-Some-2-clause-value : goal.returns-in-Some-2-clause-value
returns-in-Some-2-clause-value c =
    let cone = cone_of c.args.net.now c.args.node.0 in
    let told = subst (IsInformedAs (IsGiven InformationRule cone)) c.in-Some-2.is c.in_ok-fault.ensures.value in
    (Err c.in-Some-2.fault, told, refl)

pub returns-in-Ok-clause-value : goal.returns-in-Ok-clause-value
returns-in-Ok-clause-value c =
    let cone = cone_of c.args.net.now c.args.node.0 in
    let told = subst (IsInformedAs (IsGiven InformationRule cone)) c.in_default-2.is c.in_ok-fault.ensures.value in
    (Ok told.0, told.1, subst (IsGiven DataRule cone) c.in-Ok.is c.in_ok-dataset.ensures.value)

pub returns-clause-value : goal.returns-clause-value
returns-clause-value c =
    let cone = cone_of c.args.net.now c.args.node.0 in
    let told = subst (IsInformedAs (IsGiven InformationRule cone)) c.in_default-2.is c.in_ok-fault.ensures.value in
    (Ok told.0, told.1, subst (IsGiven DataRule cone) c.in-Err.is c.in_ok-dataset.ensures.value)
