use Rattle.std.proofs.Common.{Global, Vec, subst}
use Rattle.std.specs.List.{All}
use Rattle.viz_kept.specs.True.{HasStamp}
use Rattle.viz_parts.specs.declared.stored.Key.{Key}
use Rattle.viz_plan.proofs.demanding.demand.Goals as goal

pub returns-clause-stamps : goal.returns-clause-stamps
returns-clause-stamps c =
    subst (λ n. All (λ (keys : Vec Key Global). All (HasStamp n) keys.items) c.in_ok-levels-2.levels.items) c.stamps-stamps.ensures.value c.in_ok-levels-2.ensures.stamps

pub returns-clause-used_stamps : goal.returns-clause-used_stamps
returns-clause-used_stamps c = subst (λ n. All (HasStamp n) c.in_ok-used.used.items) c.stamps-stamps.ensures.value c.in_ok-used.ensures.stamps
