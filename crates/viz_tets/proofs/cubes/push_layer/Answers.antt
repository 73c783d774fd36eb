use Rattle.std.proofs.Common.{◌≤◌, arith}
use Rattle.viz_kuhn.specs.Cubes.{lowest_in_row, six_at}
use Rattle.viz_tets.proofs.LeafLemmas.{nested-more}
use Rattle.viz_tets.proofs.cubes.push_layer.Goals as goal

pub loop-j-preserved : goal.loop-j-preserved
loop-j-preserved c =
    let b = c.args.whole.now in
    let from = c.loop-j.invariant.from in
    record {
      from = omega arith;
      made = nested-more (six_at b) (λ j. lowest_in_row b j c.args.k) b.y0 c.loop-j.j c.args.out.now.items c.loop-j.out.items c.push_row.new.out.items from c.loop-j.invariant.made c.in_ok-push_row.ensures;
    }
