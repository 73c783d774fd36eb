use Rattle.std.proofs.Common.{◌≡◌, ◌-◌, []}
use Rattle.viz_mesh_read.specs.Poly.{for_each, none_seen, sections_of}
use Rattle.viz_mesh_read.specs.PolySteps.{sections_at}
use Rattle.viz_mesh_read.proofs.poly.poly_cells.Given as goal

-- what comes of the sections that are left is what comes of all
abbrev pub invariant-loop : goal.invariant-loop
invariant-loop l = sections_at l.binary l.later l.points (l.most - l.counter) l.seen (sections_of l.all) l.lexer ≡ sections_at l.fn.binary l.fn.later l.fn.points l.fn.most none_seen (for_each (0, [])) l.fn.lexer
