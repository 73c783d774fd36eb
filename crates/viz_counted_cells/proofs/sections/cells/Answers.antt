use Rattle.std.proofs.Common.{◌≡◌, ◌-◌, length, rules}
use Rattle.std.proofs.lemmas.Result.{err_from_is_err_and}
use Rattle.viz_counted_cells.proofs.Loops.{cells-on, cells-stop, cells-done}
use Rattle.viz_counted_cells.proofs.sections.cells.Goals as goal

pub loop-i-preserved : goal.loop-i-preserved
loop-i-preserved c =
    let left : c.saturating_sub-left.result ≡ c.args.size - length c.loop-i.numbers.items = search rules in
    cells-on c.args.binary c.args.points c.args.size c.saturating_sub-left.result c.args.count c.loop-i.i c.loop-i.numbers.items c.cell.new.numbers.items c.loop-i.lexer c.cell.new.lexer _ c.loop-i-test.true left c.in_ok-cell.ensures c.loop-i.invariant

pub returns-in_err-cell : goal.returns-in_err-cell
returns-in_err-cell c =
    let left : c.saturating_sub-left.result ≡ c.args.size - length c.loop-i.numbers.items = search rules in
    let p = err_from_is_err_and c.from_residual.result c.from_residual.ensures.1 in
    rw (p.1, p.2) (cells-stop c.args.binary c.args.points c.args.size c.saturating_sub-left.result c.in_err-cell.field-0.0 c.args.count c.loop-i.i c.loop-i.numbers.items c.loop-i.lexer _ c.loop-i-test.true left c.in_err-cell.ensures c.loop-i.invariant)

pub returns : goal.returns
returns c = cells-done c.args.binary c.args.points c.args.size c.args.count c.loop-i.i c.loop-i.numbers.items c.loop-i.lexer _ c.loop-i-test.false c.loop-i.invariant
