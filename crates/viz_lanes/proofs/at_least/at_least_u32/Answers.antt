use Rattle.std.proofs.Common.{pos, int_le}
use Rattle.viz_lanes.proofs.PlaneLemmas.{of_naturals}
use Rattle.viz_lanes.proofs.at_least.at_least_u32.Goals as goal

pub returns : goal.returns
returns c = record { value = of_naturals _ (λ x. int_le (pos c.args.v) x) c.args.xs.now c.at_least_plane.ensures }
