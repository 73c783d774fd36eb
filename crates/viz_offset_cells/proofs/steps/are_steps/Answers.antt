use Rattle.std.proofs.Common.{◌≡◌, arith}
use Rattle.std.proofs.lemmas.Grind.{common_steps}
use Rattle.byteorder.specs.Endian.{big_number}
use Rattle.viz_offset_cells.proofs.BlockLoops.{steps-on}
use Rattle.viz_offset_cells.proofs.steps.are_steps.Goals as goal

pub loop-preserved : goal.loop-preserved
loop-preserved c =
    let is : big_number 8 c.loop.left.now ≡ c.loop.offset = search (arith, common_steps) in
    steps-on c.args.step c.args.most c.loop.counter c.loop.offset c.loop.left.now c.behind-left.result.now c.args.bytes.now c.loop-test.true is c.behind-left.ensures c.loop.invariant
