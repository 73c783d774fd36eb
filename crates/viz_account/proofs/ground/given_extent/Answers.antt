use Rattle.std.proofs.Common.{Ok, subst}
use Rattle.viz_executive.specs.Produced.{IsScratchStop}
use Rattle.viz_node_meaning.specs.Scratch.{IsScratch}
use Rattle.viz_account.proofs.GroundLemmas.{gives_mesh, gives_fault}
use Rattle.viz_account.proofs.ground.given_extent.Goals as goal

pub returns-in-Ok : goal.returns-in-Ok
returns-in-Ok g c =
    gives_mesh c.scratch_is_one.ensures.cones c.args.net.now c.args.node.0 c.in-Mesh.field-0
    (subst (λ d. IsScratch c.args.net.now c.args.node.0 (Ok d)) c.in-Mesh.is c.in-Ok.ensures.dataset)

pub returns-in-Err-Fault : goal.returns-in-Err-Fault
returns-in-Err-Fault g c =
    gives_fault c.scratch_is_one.ensures.cones c.args.net.now c.args.node.0 c.in-Err-Fault.field-0-0
    (subst (IsScratchStop c.args.net.now c.args.node.0) c.in-Err-Fault.field-0-is c.in-Err-Fault.ensures.fault)
