use Rattle.std.proofs.Common.{take}
use Rattle.viz_cells.specs.Steps.Numbered.{AreNumbered}
use Rattle.viz_cells.proofs.numbering.vertices.Given as goal

abbrev pub invariant-loop-piece : goal.invariant-loop-piece
invariant-loop-piece l = AreNumbered l.keys (take l.piece-index l.pieces) l.cells.items
