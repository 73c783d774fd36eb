use Rattle.viz_round_trip.proofs.MeshStanding.{stops-nothing}
use Rattle.viz_round_trip.proofs.MeshOnly.{reads-only, reads-no_fault}
use Rattle.viz_round_trip.proofs.meshes.no_other_mesh_is_read.Goals as goal

pub returns-clause-only : goal.returns-clause-only
returns-clause-only c = reads-only

pub returns-clause-no_fault : goal.returns-clause-no_fault
returns-clause-no_fault c = reads-no_fault

pub returns-clause-no_array : goal.returns-clause-no_array
returns-clause-no_array c = stops-nothing
