use Rattle.std.proofs.Common.{◌≡◌, ◌+◌, ◌*◌, suc, ◌++◌, ◌∷◌, [], ◌∙◌, ap, arith}
use Rattle.std.specs.List.{flat_map}
use Rattle.std.proofs.lemmas.Grind.{common_steps}
use Rattle.viz_counted_cells.specs.Numbered.{cell_numbers}
use Rattle.viz_counted_cells.proofs.BlockLoops.{so_far-on, so_far-done, numbers-pushed}
use Rattle.viz_counted_cells.proofs.blocks.cells_of_size.Goals as goal

pub loop-preserved : goal.loop-preserved
loop-preserved g c =
    let list = g.C.FixedCell.list in
    let numbers = λ (c' : _). cell_numbers (list c') in
    let cell = c.in-Some.cell in
    let pushed : c.push.new.self.items ≡ c.loop.cells.items ++ cell ∷ [] = search (arith, common_steps) in
    let all : flat_map numbers c.push.new.self.items ≡ flat_map numbers c.loop.cells.items ++ cell_numbers (list cell) = ap (flat_map numbers) pushed ∙ numbers-pushed numbers c.loop.cells.items cell in
    let width : 4 * (c.size.result + 1) ≡ 4 * suc g.C.FixedCell.size = omega (arith, c.size.ensures.value) in
    rw all (so_far-on c.args.points c.args.size c.args.count c.loop.counter g.C.FixedCell.size (4 * (c.size.result + 1)) (flat_map numbers c.loop.cells.items) (list cell) c.loop.left.now c.behind-left.result.now c.args.lexer.now
    c.loop-test.true c.requires.all c.in-Some.ensures.long c.in-Some.ensures.cell c.in-Some.ensures.room width c.behind-left.ensures c.loop.invariant)

pub returns : goal.returns
returns g c = so_far-done c.args.points c.args.size c.args.count c.loop.counter g.C.FixedCell.size _ c.loop.left.now c.args.lexer.now c.loop-test.false c.requires.all c.loop.invariant
