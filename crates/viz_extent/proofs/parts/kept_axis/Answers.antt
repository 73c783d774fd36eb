use Rattle.std.proofs.Common.{◌/◌, ◌≤◌, arith}
use Rattle.viz_extent.specs.Parts.{first_kept}
use Rattle.viz_extent.proofs.PartLemmas.{kept_order}
use Rattle.viz_extent.proofs.parts.kept_axis.Goals as goal

pub returns-else-first-last-clause-some : goal.returns-else-first-last-clause-some
returns-else-first-last-clause-some c = (
  λ never. cc,
  λ kept.
      let order : first_kept c.args.lower c.args.rate ≤ c.args.upper / c.args.rate = kept_order c.args.lower c.args.upper c.args.rate kept.index c.requires.rate.least kept.on_axis in
      absurd (omega arith),
)
