use Rattle.std.proofs.Common.{[], arith, subst}
use Rattle.std.specs.Prelude.{All}
use Rattle.std.proofs.lemmas.List.{take_all}
use Rattle.std.proofs.lemmas.List.Elements.{All-more}
use Rattle.viz_strip.specs.Strips.{IsTriangle}
use Rattle.viz_strip_tests.proofs.strips.are_triangles.Goals as goal

pub loop-triangle-preserved : goal.loop-triangle-preserved
loop-triangle-preserved c =
    All-more IsTriangle c.args.triangles.now c.loop-triangle.triangle-index [] c.loop-triangle-test.true c.loop-triangle.invariant
    (c.is_triangle.ensures c.if-not-is_triangle.false)

pub returns : goal.returns
returns c = λ e. subst (All IsTriangle) (take_all c.loop-triangle.triangle-index c.args.triangles.now (omega (arith, c.loop-triangle-test.false))) c.loop-triangle.invariant
