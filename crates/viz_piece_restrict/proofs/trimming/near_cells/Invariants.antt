use Rattle.std.proofs.Common.{◌≡◌, map, take, nat_le}
use Rattle.viz_piece_restrict.proofs.trimming.near_cells.Given as goal

abbrev pub invariant-loop-i : goal.invariant-loop-i
invariant-loop-i l = l.keeps.items ≡ map (λ m. nat_le m l.ghosts) (take l.i l.part.levels)
