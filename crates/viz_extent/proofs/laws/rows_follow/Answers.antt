use Rattle.std.proofs.Common.{◌-◌, arith}
use Rattle.viz_extent.proofs.NumberingLemmas.{planes-up_to_last}
use Rattle.viz_extent.proofs.laws.rows_follow.Goals as goal

pub returns-clause-planes : goal.returns-clause-planes
returns-clause-planes c = λ b k has.
    let whole = planes-up_to_last (b.x1 - b.x0) (b.y1 - b.y0) (k - b.z0) in
    grind arith
