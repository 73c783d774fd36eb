use Rattle.std.proofs.Common.{◌≡◌, map, take}
use Rattle.viz_piece_stitch.proofs.cells.all_mixed.Given as goal

abbrev pub invariant-loop-cell : goal.invariant-loop-cell
invariant-loop-cell g l = l.all.items ≡ map g.C.RankCell.ranks (take l.cell-index l.cells)
