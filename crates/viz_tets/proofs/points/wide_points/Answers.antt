use Rattle.std.proofs.Common.{◌≡◌, ◌+◌, arith}
use Rattle.std.proofs.lemmas.Grind.{common_steps}
use Rattle.std.proofs.lemmas.List.FromFn.{map-range_with_len_more}
use Rattle.viz_meaning.specs.Tetrahedra.{point_of_leaf}
use Rattle.viz_tets.proofs.points.wide_points.Goals as goal

pub loop-leaf-preserved : goal.loop-leaf-preserved
loop-leaf-preserved c =
    let e : 0 + c.loop-leaf.leaf ≡ c.loop-leaf.leaf = omega arith in
    grind (arith, common_steps, map-range_with_len_more (point_of_leaf c.args.image.now) 0 c.loop-leaf.leaf c.loop-leaf.leaf e)
