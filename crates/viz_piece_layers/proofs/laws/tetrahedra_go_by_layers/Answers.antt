use Rattle.viz_piece_layers.proofs.LayerLemmas as lemma
use Rattle.viz_piece_layers.proofs.laws.tetrahedra_go_by_layers.Goals as goal

pub returns-clause-list : goal.returns-clause-list
returns-clause-list c = lemma.by_layers

pub returns-clause-even : goal.returns-clause-even
returns-clause-even c = lemma.layers_even

pub returns-clause-range : goal.returns-clause-range
returns-clause-range c = lemma.layers_range

pub returns-clause-planes : goal.returns-clause-planes
returns-clause-planes c = lemma.planes_have

pub returns-clause-between : goal.returns-clause-between
returns-clause-between c = lemma.leaves_between c.corners_are_the_cubes.ensures.only

pub returns-clause-near : goal.returns-clause-near
returns-clause-near c = lemma.meet_near c.corners_are_the_cubes.ensures.only

pub returns-clause-above : goal.returns-clause-above
returns-clause-above c = lemma.touch_above c.corners_are_the_cubes.ensures.diagonal

pub returns-clause-below : goal.returns-clause-below
returns-clause-below c = lemma.touch_below c.corners_are_the_cubes.ensures.diagonal
