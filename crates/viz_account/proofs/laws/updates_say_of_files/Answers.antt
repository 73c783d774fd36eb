use Rattle.viz_account.proofs.CompleteLemmas.{updates_say}
use Rattle.viz_account.specs.Written.{HasNoPlan}
use Rattle.viz_account.proofs.laws.updates_say_of_files.Goals as goal

pub returns : goal.returns
returns c = record { files = updates_say c.files_are_one.ensures.law HasNoPlan }
