use Rattle.std.proofs.lemmas.Result.{err_from_is_err_and}
use Rattle.viz_mesh_read.proofs.GridLoops.{types-on, types-fault, types-done}
use Rattle.viz_mesh_read.proofs.types.cell_types.Goals as goal

pub loop-preserved : goal.loop-preserved
loop-preserved c =
    types-on c.args.binary c.first_count.result c.args.count c.loop.counter c.loop.left.now c.behind_first-left.result.now c.loop.lexer c.cell_type.new.lexer _ c.loop-test.true c.first_count.ensures.value c.behind_first-left.ensures.value c.in_ok-cell_type.ensures c.loop.invariant

pub returns-in_err-cell_type : goal.returns-in_err-cell_type
returns-in_err-cell_type c =
    let p = err_from_is_err_and c.from_residual.result c.from_residual.ensures.1 in
    rw (p.1, p.2) (types-fault c.args.binary c.first_count.result c.args.count c.loop.counter c.loop.left.now c.loop.lexer c.in_err-cell_type.field-0.0 _ c.loop-test.true c.first_count.ensures.value c.in_err-cell_type.ensures c.loop.invariant)

pub returns : goal.returns
returns c = types-done c.args.binary c.args.count c.loop.counter c.loop.left.now c.loop.lexer _ c.loop-test.false c.loop.invariant
