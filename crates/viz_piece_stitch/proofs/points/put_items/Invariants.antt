use Rattle.std.proofs.Common.{take}
use Rattle.viz_piece_stitch.specs.Steps.Put.{IsPut}
use Rattle.viz_piece_stitch.proofs.points.put_items.Given as goal

abbrev pub invariant-loop-i : goal.invariant-loop-i
invariant-loop-i g l = IsPut l.initial.points.items (take l.i l.ranks) l.piece l.points.items
