use Rattle.std.proofs.Common.{◌≡◌, ◌++◌, ◌∷◌, [], arith}
use Rattle.std.proofs.lemmas.Grind.{common_steps}
use Rattle.viz_offset_cells.specs.Steps.{index_at}
use Rattle.viz_offset_cells.proofs.Loops.{known-on}
use Rattle.viz_offset_cells.proofs.runs.run.Goals as goal

pub loop-preserved : goal.loop-preserved
loop-preserved c =
    let n = c.in_ok-index.field-0 in
    let pushed : c.push.new.self.items ≡ c.loop.numbers.items ++ n ∷ [] = search (arith, common_steps) in
    rw pushed (known-on (λ before. index_at c.args.binary c.args.kind c.args.points) c.args.count c.loop.counter c.loop.numbers.items c.loop.lexer n c.index.new.lexer _ c.loop-test.true c.in_ok-index.ensures c.loop.invariant)
