use Rattle.std.proofs.Common.{arith}
use Rattle.viz_offset_cells.proofs.BlockLoops.{cuts-end}
use Rattle.viz_offset_cells.proofs.runs.cut_cells.Goals as goal

pub equal_cells-requires-clause-within : goal.equal_cells-requires-clause-within
equal_cells-requires-clause-within c =
    let sum = cuts-end c.args.cuts.now c.in-Steps.step c.in-Steps.count c.args.indices c.in-Steps.is c.requires.cuts in
    let few = c.requires.within in
    omega (arith, sum, few)
