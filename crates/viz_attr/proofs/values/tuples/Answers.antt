use Rattle.std.proofs.Common.{◌≡◌, ◌++◌, ◌∷◌, [], ℤ, map, arith}
use Rattle.std.proofs.lemmas.Grind.{common_steps}
use Rattle.std.proofs.lemmas.Result.{err_from_is_err_and}
use Rattle.viz_attr.specs.Steps.{tuples_at}
use Rattle.viz_attr.proofs.ValueLoops.{goes_on, ends, is_done}
use Rattle.viz_attr.proofs.values.tuples.Goals as goal

pub loop-preserved : goal.loop-preserved
loop-preserved g c =
    let T = g.T.Number in
    let n = c.in_ok-tuple.field-0 in
    let pushed : map T.value c.push.new.self.items ≡ map T.value c.loop.numbers.items ++ T.value n ∷ [] = search (arith, common_steps) in
    rw pushed (goes_on T.kind c.args.components (map T.value c.loop.numbers.items) c.args.count c.loop.counter c.loop.lexer (T.value n) c.tuple.new.lexer (tuples_at T.kind c.args.components c.args.count c.args.lexer.now) c.loop-test.true c.in_ok-tuple.ensures c.loop.invariant)

pub returns-in_err-tuple : goal.returns-in_err-tuple
returns-in_err-tuple g c =
    let T = g.T.Number in
    let p = err_from_is_err_and c.from_residual-in_err-tuple.result c.from_residual-in_err-tuple.ensures.1 in
    rw p.1 (ends T.kind c.args.components p.0 c.in_err-tuple.field-0.0 (map T.value c.loop.numbers.items) c.args.count c.loop.counter c.loop.lexer (tuples_at T.kind c.args.components c.args.count c.args.lexer.now) c.loop-test.true p.2 c.in_err-tuple.ensures c.loop.invariant)

pub returns : goal.returns
returns g c = is_done g.T.Number.kind c.args.components (map g.T.Number.value c.loop.numbers.items) c.args.count c.loop.counter c.loop.lexer (tuples_at g.T.Number.kind c.args.components c.args.count c.args.lexer.now) c.loop-test.false c.loop.invariant
