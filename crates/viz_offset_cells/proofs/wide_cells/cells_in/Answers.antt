use Rattle.std.proofs.Common.{◌≡◌, ◌++◌, ◌∷◌, [], arith}
use Rattle.std.proofs.lemmas.Grind.{common_steps}
use Rattle.viz_offset_cells.proofs.BlockLoops.{cells-on}
use Rattle.viz_offset_cells.proofs.wide_cells.cells_in.Goals as goal

pub loop-preserved : goal.loop-preserved
loop-preserved g c =
    let cell = c.in-Some.cell in
    let pushed : c.push.new.self.items ≡ c.loop.cells.items ++ cell ∷ [] = search (arith, common_steps) in
    rw pushed (cells-on g.C.WideCell.list c.args.points g.C.WideCell.size c.args.count c.loop.counter c.width.result c.loop.cells.items cell c.loop.left.now c.behind-left.result.now c.args.bytes.now
    c.loop-test.true c.in-Some.ensures c.width.ensures c.behind-left.ensures c.loop.invariant)
