use Rattle.std.proofs.Common.{◌≡◌, take}
use Rattle.viz_sheet.specs.Arrays.{ranks_in}
use Rattle.viz_cells.specs.Steps.Pieces.{pieces_of}
use Rattle.viz_cells.proofs.pieces.pieces.Given as goal

abbrev pub invariant-loop-i : goal.invariant-loop-i
invariant-loop-i l = l.out.items ≡ pieces_of l.inside (take l.i (ranks_in l.ranks))
