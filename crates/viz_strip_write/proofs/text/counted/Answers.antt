use Rattle.std.proofs.Common.{arith}
use Rattle.viz_sheet.specs.Arrays.{ranks_in}
use Rattle.viz_strip_write.proofs.FitLemmas.{few-fit, fit-few}
use Rattle.viz_strip_write.proofs.text.counted.Goals as goal

pub returns-then-points-ge-MOST-clause-none : goal.returns-then-points-ge-MOST-clause-none
returns-then-points-ge-MOST-clause-none c =
    λ f. let few = fit-few c.args.points c.count_of_size-vertices.result c.count_of_size-lines.result (ranks_in c.args.ranks.now) c.count_of_size-vertices.ensures c.count_of_size-lines.ensures f in
    let a = few.0 in
    let b = few.1.0 in
    let d = few.1.1 in
    grind arith

pub returns-clause-fits : goal.returns-clause-fits
returns-clause-fits c =
    few-fit c.args.points c.count_of_size-vertices.result c.count_of_size-lines.result (ranks_in c.args.ranks.now) c.count_of_size-vertices.ensures c.count_of_size-lines.ensures (grind arith) (grind arith) (grind arith)
