use Rattle.viz_sheet.specs.Arrays.{ranks_in}
use Rattle.viz_piece_restrict.specs.Steps.Levels.{AreLevels}
use Rattle.viz_piece_restrict.proofs.growth.grow_levels.Given as goal

abbrev pub invariant-loop-level : goal.invariant-loop-level
invariant-loop-level l = AreLevels l.sheet (ranks_in l.ranks) l.initial.there l.level l.marks l.there l.levels
