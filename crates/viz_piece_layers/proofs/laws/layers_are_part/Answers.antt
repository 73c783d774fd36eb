use Rattle.viz_piece_layers.proofs.PartLemmas as lemma
use Rattle.viz_piece_layers.proofs.laws.layers_are_part.Goals as goal

pub returns : goal.returns
returns c = record { part = lemma.layers_are_part; steps = lemma.levels_are_steps }
