use Rattle.std.proofs.Common.{◌≡◌, ◌+◌, map, arith}
use Rattle.std.proofs.lemmas.Grind.{common_steps}
use Rattle.std.proofs.lemmas.List.FromFn.{map-range_with_len_more}
use Rattle.viz_file_mesh.specs.Steps.Placed.{placed}
use Rattle.viz_file_mesh.proofs.points.small_points.Goals as goal

pub loop-i-preserved : goal.loop-i-preserved
loop-i-preserved g c =
    let e : 0 + c.loop-i.i ≡ c.loop-i.i = omega arith in
    grind (arith, common_steps, map-range_with_len_more (placed c.args.scale (map g.T.Number.value c.args.numbers.now) c.args.picked.now) 0 c.loop-i.i c.loop-i.i e)
