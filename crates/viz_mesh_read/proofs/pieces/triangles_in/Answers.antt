use Rattle.viz_mesh_read.specs.Pieces.{triangles_of}
use Rattle.viz_mesh_read.proofs.PieceLemmas.{cells-on, cells-done}
use Rattle.viz_mesh_read.proofs.pieces.triangles_in.Goals as goal

pub loop-preserved : goal.loop-preserved
loop-preserved c =
    cells-on (triangles_of c.args.strip) c.args.count c.loop.counter c.loop.pieces.items c.push_triangles.new.pieces.items c.loop.left.now c.first_indices.result.now c.behind_first-left.result.now _ c.loop-test.true c.first_indices.ensures.value c.behind_first-left.ensures.value c.in_ok-push_triangles.ensures c.loop.invariant

pub returns : goal.returns
returns c = cells-done (triangles_of c.args.strip) c.args.count c.loop.counter c.loop.pieces.items c.loop.left.now _ c.loop-test.false c.loop.invariant
