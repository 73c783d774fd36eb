use Rattle.std.proofs.Common.{◌≤◌, [], arith}
use Rattle.viz_kuhn.specs.Cubes.{lowest_in_layer, six_at}
use Rattle.viz_tets.proofs.LeafLemmas.{nested-more}
use Rattle.viz_tets.proofs.cubes.cells.Goals as goal

pub loop-k-preserved : goal.loop-k-preserved
loop-k-preserved c =
    let b = c.args.whole.now in
    let from = c.loop-k.invariant.from in
    record {
      from = omega arith;
      made = nested-more (six_at b) (lowest_in_layer b) b.z0 c.loop-k.k [] c.loop-k.out.items c.push_layer.new.out.items from c.loop-k.invariant.made c.in_ok-push_layer.ensures;
    }
