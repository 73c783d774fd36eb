use Rattle.std.proofs.Common.{arith}
use Rattle.viz_piece_section.proofs.LeastLemmas.{least-more}
use Rattle.viz_piece_section.proofs.cell_levels.lesser.Goals as goal

pub loop-leaf-preserved : goal.loop-leaf-preserved
loop-leaf-preserved c =
    let more = least-more c.args.number c.args.name.now c.loop-leaf.leaf-index 0 c.loop-leaf-test.true in
    record {
      value = omega (arith, more, c.min-least.ensures, c.loop-leaf.invariant.value);
      most = omega (arith, c.min-least.ensures, c.loop-leaf.invariant.most);
    }
