use Rattle.std.proofs.Common.{◌≡◌, ◌++◌, ◌∷◌, [], arith}
use Rattle.std.proofs.lemmas.Grind.{common_steps}
use Rattle.std.proofs.lemmas.Result.{err_from_is_err_and}
use Rattle.viz_counted_cells.proofs.Loops.{indices-on, indices-fault, indices-done}
use Rattle.viz_counted_cells.proofs.sections.indices.Goals as goal

pub loop-preserved : goal.loop-preserved
loop-preserved c =
    let n = c.in_ok-index.field-0 in
    let pushed : c.push.new.self.items ≡ c.loop.numbers.items ++ n ∷ [] = search (arith, common_steps) in
    rw pushed (indices-on c.args.binary c.args.points c.args.count c.loop.counter c.loop.numbers.items c.loop.lexer n c.index.new.lexer _ c.loop-test.true c.in_ok-index.ensures c.loop.invariant)

pub returns-in_err-index : goal.returns-in_err-index
returns-in_err-index c =
    let p = err_from_is_err_and c.from_residual.result c.from_residual.ensures.1 in
    rw p.1 (indices-fault c.args.binary c.args.points p.0 c.in_err-index.field-0.0 c.args.count c.loop.counter c.loop.numbers.items c.loop.lexer _ c.loop-test.true p.2 c.in_err-index.ensures c.loop.invariant)

pub returns : goal.returns
returns c = indices-done c.args.binary c.args.points c.args.count c.loop.counter c.loop.numbers.items c.loop.lexer _ c.loop-test.false c.loop.invariant
