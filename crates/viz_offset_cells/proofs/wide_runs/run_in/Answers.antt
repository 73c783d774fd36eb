use Rattle.std.proofs.Common.{◌≡◌, ◌++◌, ◌∷◌, [], arith}
use Rattle.std.proofs.lemmas.Grind.{common_steps}
use Rattle.viz_offset_cells.proofs.WideRuns.{run-on}
use Rattle.viz_offset_cells.proofs.wide_runs.run_in.Goals as goal

pub loop-preserved : goal.loop-preserved
loop-preserved c =
    let index = c.in-Some.index in
    let pushed : c.push.new.self.items ≡ c.loop.numbers.items ++ index ∷ [] = search (arith, common_steps) in
    rw pushed (run-on c.args.points c.args.count c.loop.counter index c.args.numbers.now.items c.loop.numbers.items c.loop.left.now c.behind-left.result.now c.args.bytes.now
    c.loop-test.true c.requires.few c.in-Some.ensures.value c.in-Some.ensures.below c.behind-left.ensures c.loop.invariant)
