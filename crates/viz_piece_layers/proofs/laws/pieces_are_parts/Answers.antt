use Rattle.viz_piece_layers.proofs.PieceLemmas as lemma
use Rattle.viz_piece_layers.proofs.laws.pieces_are_parts.Goals as goal

pub returns-clause-parts : goal.returns-clause-parts
returns-clause-parts c = lemma.pieces_are_parts c.corners_are_the_cubes.ensures.only

pub returns-clause-all : goal.returns-clause-all
returns-clause-all c = lemma.owns_are_all

pub returns-clause-ranges : goal.returns-clause-ranges
returns-clause-ranges c = lemma.pieces_are_ranges

pub returns-clause-steps : goal.returns-clause-steps
returns-clause-steps c = lemma.pieces_go_by_steps c.corners_are_the_cubes.ensures.diagonal

pub returns-clause-some : goal.returns-clause-some
returns-clause-some c = lemma.each_owns
