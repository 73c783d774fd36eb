use Rattle.std.proofs.lemmas.Result.{err_from_is_err_and}
use Rattle.viz_offset_cells.proofs.Loops.{next-cut, few-indices, runs-on, runs-stop, runs-done}
use Rattle.viz_offset_cells.proofs.runs.cells.Goals as goal

pub cell-requires-clause-within : goal.cell-requires-clause-within
cell-requires-clause-within c = few-indices c.loop-next.last c.loop-next.next-index c.args.offsets.now c.args.indices c.loop-next-test.true c.loop-next.invariant.1 c.requires.within

pub returns-in_err-cell : goal.returns-in_err-cell
returns-in_err-cell c =
    let p = err_from_is_err_and c.from_residual.result c.from_residual.ensures.1 in
    rw (p.1, p.2) (runs-stop c.args.binary c.args.kind c.args.points c.loop-next.last c.loop-next.next-index c.args.offsets.now c.loop-next.numbers.items c.loop-next.lexer c.in_err-cell.field-0.0 _ c.loop-next-test.true c.in_err-cell.ensures c.loop-next.invariant.0)

pub loop-next-preserved : goal.loop-next-preserved
loop-next-preserved c = (
  runs-on c.args.binary c.args.kind c.args.points c.loop-next.last c.loop-next.next-index c.args.offsets.now c.loop-next.numbers.items c.cell.new.numbers.items c.loop-next.lexer c.cell.new.lexer _ c.loop-next-test.true c.in_ok-cell.ensures c.loop-next.invariant.0,
  (next-cut c.loop-next.last c.loop-next.next-index c.args.offsets.now c.args.indices c.loop-next-test.true c.loop-next.invariant.1).1,
)

pub returns : goal.returns
returns c = runs-done c.args.binary c.args.kind c.args.points c.loop-next.last c.loop-next.next-index c.args.offsets.now c.loop-next.numbers.items c.loop-next.lexer _ c.loop-next-test.false c.loop-next.invariant.0
