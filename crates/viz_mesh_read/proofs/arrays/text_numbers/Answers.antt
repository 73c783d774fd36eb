use Rattle.std.proofs.Common.{◌≡◌, ◌++◌, ◌∷◌, [], map, arith}
use Rattle.std.proofs.lemmas.Grind.{common_steps}
use Rattle.std.proofs.lemmas.Result.{err_from_is_err_and}
use Rattle.viz_lex.specs.Readers.{times_at}
use Rattle.viz_mesh_read.specs.Steps.{value_at}
use Rattle.viz_counted_cells.proofs.Loops.{times-on, times-fault, times-done}
use Rattle.viz_mesh_read.proofs.arrays.text_numbers.Goals as goal

pub loop-preserved : goal.loop-preserved
loop-preserved g c =
    let T = g.T.Number in
    let n = c.in_ok-value.field-0 in
    let pushed : map T.value c.push.new.self.items ≡ map T.value c.loop.numbers.items ++ T.value n ∷ [] = search (arith, common_steps) in
    rw pushed (times-on (value_at T.kind) (map T.value c.loop.numbers.items) c.args.count c.loop.counter c.loop.lexer (T.value n) c.value.new.lexer (times_at (value_at T.kind) c.args.count c.args.lexer.now) c.loop-test.true c.in_ok-value.ensures c.loop.invariant)

pub returns-in_err-value : goal.returns-in_err-value
returns-in_err-value g c =
    let T = g.T.Number in
    let p = err_from_is_err_and c.from_residual-in_err-value.result c.from_residual-in_err-value.ensures.1 in
    rw p.1 (times-fault (value_at T.kind) p.0 c.in_err-value.field-0.0 (map T.value c.loop.numbers.items) c.args.count c.loop.counter c.loop.lexer (times_at (value_at T.kind) c.args.count c.args.lexer.now) c.loop-test.true p.2 c.in_err-value.ensures c.loop.invariant)

pub returns : goal.returns
returns g c = times-done (value_at g.T.Number.kind) (map g.T.Number.value c.loop.numbers.items) c.args.count c.loop.counter c.loop.lexer (times_at (value_at g.T.Number.kind) c.args.count c.args.lexer.now) c.loop-test.false c.loop.invariant
