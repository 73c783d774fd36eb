use Rattle.std.proofs.lemmas.Result.{err_from_is_err_and}
use Rattle.viz_offset_cells.proofs.BlockLoops.{equal-start, equal-on, equal-stop, equal-done, equal-few}
use Rattle.viz_offset_cells.proofs.runs.equal_cells.Goals as goal

pub loop-init : goal.loop-init
loop-init c = equal-start c.args.binary c.args.kind c.args.points c.args.step c.args.count c.args.numbers.now.items c.args.lexer.now

pub cell-requires-clause-within : goal.cell-requires-clause-within
cell-requires-clause-within c = equal-few c.args.step c.args.count c.loop.counter c.loop-test.true c.requires.within

pub returns-in_err-cell : goal.returns-in_err-cell
returns-in_err-cell c =
    let p = err_from_is_err_and c.from_residual.result c.from_residual.ensures.1 in
    rw (p.1, p.2) (equal-stop c.args.binary c.args.kind c.args.points c.args.step c.args.count c.loop.counter c.loop.numbers.items c.loop.lexer c.in_err-cell.field-0.0 _ c.loop-test.true c.in_err-cell.ensures c.loop.invariant)

pub loop-preserved : goal.loop-preserved
loop-preserved c = equal-on c.args.binary c.args.kind c.args.points c.args.step c.args.count c.loop.counter c.loop.numbers.items c.cell.new.numbers.items c.loop.lexer c.cell.new.lexer _ c.loop-test.true c.in_ok-cell.ensures c.loop.invariant

pub returns : goal.returns
returns c = equal-done c.args.binary c.args.kind c.args.points c.args.step c.args.count c.loop.counter c.loop.numbers.items c.loop.lexer _ c.loop-test.false c.loop.invariant
