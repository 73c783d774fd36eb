use Rattle.viz_batches.proofs.SoundLemmas.{history_sound, batch_sound}
use Rattle.viz_batches.proofs.laws.histories_are_sound.Goals as goal

pub returns : goal.returns
returns c = record { history = history_sound; applied = λ at edits old new answer s h. batch_sound at edits old new answer s h }
