use Rattle.std.proofs.lemmas.Result.{err_from_is_err_and}
use Rattle.viz_attr.specs.Steps.{others_at}
use Rattle.viz_attr.proofs.ValueLoops.{others-on, others-fault, others-done}
use Rattle.viz_attr.proofs.values.others.Goals as goal

pub loop-preserved : goal.loop-preserved
loop-preserved g c =
    let T = g.T.Number in
    others-on T.kind c.args.count c.loop.counter c.loop.lexer c.value.new.lexer (T.value c.in_ok-value.field-0) (others_at T.kind c.args.count c.args.lexer.now) c.loop-test.true c.in_ok-value.ensures c.loop.invariant

pub returns-in_err-value : goal.returns-in_err-value
returns-in_err-value g c =
    let T = g.T.Number in
    let p = err_from_is_err_and c.from_residual.result c.from_residual.ensures.1 in
    rw (p.1, p.2) (others-fault T.kind c.args.count c.loop.counter c.loop.lexer c.in_err-value.field-0.0 (others_at T.kind c.args.count c.args.lexer.now) c.loop-test.true c.in_err-value.ensures c.loop.invariant)

pub returns : goal.returns
returns g c = others-done g.T.Number.kind c.args.count c.loop.counter c.loop.lexer (others_at g.T.Number.kind c.args.count c.args.lexer.now) c.loop-test.false c.loop.invariant
