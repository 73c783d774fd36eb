use Rattle.viz_clip_meaning.proofs.SpotLemmas.{split-by_rows}
use Rattle.viz_clip_meaning.proofs.laws.solids_split_by_rows.Goals as goal

pub returns : goal.returns
returns c = record { rows = split-by_rows }
