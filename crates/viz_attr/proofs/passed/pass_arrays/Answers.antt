use Rattle.std.proofs.lemmas.Result.{err_from_is_err_and}
use Rattle.viz_attr.proofs.PassedLaws.{passed-on, passed-fault, passed-done}
use Rattle.viz_attr.proofs.passed.pass_arrays.Goals as goal

pub loop-preserved : goal.loop-preserved
loop-preserved c = passed-on c.args.binary c.loop.first c.args.count c.loop.counter c.loop.lexer c.pass_array.new.lexer _ c.loop-test.true c.in_ok-pass_array.ensures c.loop.invariant

pub returns-in_err-pass_array : goal.returns-in_err-pass_array
returns-in_err-pass_array c =
    let p = err_from_is_err_and c.from_residual.result c.from_residual.ensures.1 in
    rw (p.1, p.2) (passed-fault c.args.binary c.loop.first c.args.count c.loop.counter c.loop.lexer c.in_err-pass_array.field-0.0 _ c.loop-test.true c.in_err-pass_array.ensures c.loop.invariant)

pub returns : goal.returns
returns c = passed-done c.args.binary c.loop.first c.args.count c.loop.counter c.loop.lexer _ c.loop-test.false c.loop.invariant
