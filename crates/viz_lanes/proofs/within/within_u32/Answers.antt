use Rattle.std.proofs.Common.{◌&&◌, pos, int_le}
use Rattle.viz_lanes.proofs.PlaneLemmas.{of_naturals}
use Rattle.viz_lanes.proofs.within.within_u32.Goals as goal

pub returns : goal.returns
returns c = record { value = of_naturals _ (λ x. int_le (pos c.args.lo) x && int_le x (pos c.args.hi)) c.args.xs.now c.within_plane.ensures }
