use Rattle.viz_network.proofs.SoundLemmas.{sound_after}
use Rattle.viz_network.proofs.HistoryLemmas.{sound_of, past_of_history, sound_applied}
use Rattle.viz_network.proofs.laws.networks_are_sound.Goals as goal

pub returns : goal.returns
returns c = record { each = sound_of; past = past_of_history; step = sound_after; applied = sound_applied }
