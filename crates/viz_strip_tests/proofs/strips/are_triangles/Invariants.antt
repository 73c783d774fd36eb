use Rattle.std.proofs.Common.{take}
use Rattle.std.specs.Prelude.{All}
use Rattle.viz_strip.specs.Strips.{IsTriangle}
use Rattle.viz_strip_tests.proofs.strips.are_triangles.Given as goal

abbrev pub invariant-loop-triangle : goal.invariant-loop-triangle
invariant-loop-triangle l = All IsTriangle (take l.triangle-index l.triangles)
