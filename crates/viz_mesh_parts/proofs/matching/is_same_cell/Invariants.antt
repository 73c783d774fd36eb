use Rattle.std.proofs.Common.{◌≡◌, take}
use Rattle.viz_sheet.specs.Ranked.{names_at}
use Rattle.viz_mesh_parts.proofs.matching.is_same_cell.Given as goal

abbrev pub invariant-loop-i : goal.invariant-loop-i
invariant-loop-i l = names_at l.a.names (take l.i l.xs) ≡ names_at l.b.names (take l.i l.ys)
