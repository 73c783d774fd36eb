use Rattle.viz_piece_restrict.specs.Steps.Levels.{AreMarkedTo}
use Rattle.viz_piece_restrict.proofs.marking.mark_cells.Given as goal

abbrev pub invariant-loop-i : goal.invariant-loop-i
invariant-loop-i g l = AreMarkedTo g.C.RankCell.ranks l.i l.cells l.there l.levels l.level l.initial.marks l.marks
