use Rattle.viz_round_trip.proofs.AgainLemmas.{read_is-written}
use Rattle.viz_round_trip.proofs.MeshStanding.{reads-nothing}
use Rattle.viz_round_trip.proofs.MeshOnly.{reads-written}
use Rattle.viz_round_trip.proofs.meshes.written_meshes_are_read_again.Goals as goal

pub returns-clause-again : goal.returns-clause-again
returns-clause-again c = reads-written

pub returns-clause-empty : goal.returns-clause-empty
returns-clause-empty c = reads-nothing

pub returns-clause-rule : goal.returns-clause-rule
returns-clause-rule c = read_is-written
