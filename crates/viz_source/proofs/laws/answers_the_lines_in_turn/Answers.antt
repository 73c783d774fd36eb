use Rattle.viz_source.proofs.StreamLemmas.{answered-lines, answered-all, answered-too_long}
use Rattle.viz_source.proofs.laws.answers_the_lines_in_turn.Goals as goal

pub returns-clause-in_turn : goal.returns-clause-in_turn
returns-clause-in_turn c old new lines h = answered-lines old new lines h

pub returns-clause-all : goal.returns-clause-all
returns-clause-all c old new lines h over = answered-all old new lines h over

pub returns-clause-too_long : goal.returns-clause-too_long
returns-clause-too_long c old new lines h = answered-too_long old new lines h
