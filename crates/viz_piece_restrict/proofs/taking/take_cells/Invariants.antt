use Rattle.std.proofs.Common.{◌≡◌, false}
use Rattle.viz_piece_restrict.specs.Steps.Levels.{AreGrownTo, AreSameLevels}
use Rattle.viz_piece_restrict.proofs.taking.take_cells.Given as goal

abbrev pub invariant-loop-i : goal.invariant-loop-i
invariant-loop-i g l = record {
  grown : AreGrownTo g.C.RankCell.ranks l.i l.cells l.marks l.level l.initial.there l.initial.levels l.there l.levels;
  none : l.some ≡ false → AreSameLevels l.initial.there l.initial.levels l.there l.levels;
}
