use Rattle.std.proofs.Common.{arith}
use Rattle.viz_kuhn.specs.Cubes.{lowest_in_row}
use Rattle.viz_mixed.specs.Mixed.{corner_flags, is_mixed}
use Rattle.viz_mixed.proofs.CubeLemmas.{layer-more}
use Rattle.viz_mixed.proofs.cubes.push_layer.Goals as goal

pub loop-j-preserved : goal.loop-j-preserved
loop-j-preserved c =
    let b = c.args.whole.now in
    let from = c.loop-j.invariant.from in
    record {
      from = omega arith;
      made = layer-more (λ at. is_mixed (corner_flags b c.args.flags.now at)) (λ j. lowest_in_row b j c.args.k) b.y0 c.loop-j.j c.args.out.now c.loop-j.out c.push_row.new.out from c.loop-j.invariant.made
          c.in_ok-push_row.ensures;
    }
