use Rattle.std.proofs.Common.{arith}
use Rattle.std.proofs.lemmas.Grind.{common_steps}
use Rattle.viz_base.proofs.EntriesLemmas.{file_at-take_more}
use Rattle.viz_base.proofs.files.place.Goals as goal

pub loop-i-preserved : goal.loop-i-preserved
loop-i-preserved c = grind (arith, common_steps, file_at-take_more)
