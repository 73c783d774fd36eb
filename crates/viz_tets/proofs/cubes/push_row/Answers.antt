use Rattle.std.proofs.Common.{◌≤◌, arith}
use Rattle.viz_kuhn.specs.Cubes.{six_at}
use Rattle.viz_kuhn.specs.Places.{place}
use Rattle.viz_tets.proofs.LeafLemmas.{mapped-more}
use Rattle.viz_tets.proofs.cubes.push_row.Goals as goal

pub loop-i-preserved : goal.loop-i-preserved
loop-i-preserved c =
    let b = c.args.whole.now in
    let from = c.loop-i.invariant.from in
    record {
      from = omega arith;
      made = mapped-more (six_at b) (λ i. place i c.args.j c.args.k) b.x0 c.loop-i.i c.args.out.now.items c.loop-i.out.items c.push_cube.new.out.items from c.loop-i.invariant.made c.in_ok-push_cube.ensures;
    }
