use Rattle.viz_mesh_meaning.proofs.MergeLemmas.{merged-sheet}
use Rattle.viz_mesh_meaning.proofs.laws.merges_are_sheets.Goals as goal

pub returns : goal.returns
returns c = record { sheet = λ sheets h. merged-sheet sheets h }
