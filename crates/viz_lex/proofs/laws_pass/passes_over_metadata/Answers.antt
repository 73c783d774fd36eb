use Rattle.viz_lex.proofs.MetadataLemmas.{metadata_at-empty, metadata_at-all, metadata_at-Ok}
use Rattle.viz_lex.proofs.laws_pass.passes_over_metadata.Goals as goal

pub returns-clause-empty : goal.returns-clause-empty
returns-clause-empty c = metadata_at-empty

pub returns-clause-all : goal.returns-clause-all
returns-clause-all c = metadata_at-all

pub returns-clause-ok : goal.returns-clause-ok
returns-clause-ok c = metadata_at-Ok
