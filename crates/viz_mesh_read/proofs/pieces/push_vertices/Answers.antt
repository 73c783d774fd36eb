use Rattle.std.proofs.Common.{◌≡◌, ◌++◌, ◌∷◌, [], arith}
use Rattle.std.proofs.lemmas.Grind.{common_steps}
use Rattle.viz_mesh_read.specs.Pieces.{vertex_of}
use Rattle.viz_mesh_read.proofs.PieceLemmas.{pieces-on}
use Rattle.viz_mesh_read.proofs.pieces.push_vertices.Goals as goal

pub loop-i-preserved : goal.loop-i-preserved
loop-i-preserved c =
    let pushed : c.push.new.self.items ≡ c.loop-i.pieces.items ++ vertex_of c.args.cell.now c.loop-i.i ∷ [] = search (arith, common_steps) in
    pieces-on (λ i. vertex_of c.args.cell.now i ∷ []) c.args.pieces.now.items c.loop-i.pieces.items c.push.new.self.items c.loop-i.i c.loop-i.invariant pushed
