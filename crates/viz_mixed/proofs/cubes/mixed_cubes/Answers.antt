use Rattle.std.proofs.Common.{[], arith}
use Rattle.viz_kuhn.specs.Cubes.{lowest_in_layer}
use Rattle.viz_mixed.specs.Mixed.{corner_flags, is_mixed}
use Rattle.viz_mixed.proofs.CubeLemmas.{layer-more}
use Rattle.viz_mixed.proofs.cubes.mixed_cubes.Goals as goal

pub loop-k-preserved : goal.loop-k-preserved
loop-k-preserved c =
    let b = c.args.whole.now in
    let from = c.loop-k.invariant.from in
    record {
      from = omega arith;
      made = layer-more (λ at. is_mixed (corner_flags b c.args.flags.now at)) (lowest_in_layer b) b.z0 c.loop-k.k [] c.loop-k.out c.push_layer.new.out from c.loop-k.invariant.made
          c.in_ok-push_layer.ensures;
    }
