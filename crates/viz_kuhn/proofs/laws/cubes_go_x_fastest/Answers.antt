use Rattle.viz_kuhn.proofs.CubeLemmas.{length-all_lowest, cube_at-in_list, numbers_each}
use Rattle.viz_kuhn.proofs.laws.cubes_go_x_fastest.Goals as goal

pub returns-clause-list : goal.returns-clause-list
returns-clause-list c = length-all_lowest

pub returns-clause-x_fastest : goal.returns-clause-x_fastest
returns-clause-x_fastest c = cube_at-in_list

pub returns-clause-each : goal.returns-clause-each
returns-clause-each c = numbers_each
