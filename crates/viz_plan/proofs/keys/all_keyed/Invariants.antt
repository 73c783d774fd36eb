use Rattle.std.proofs.Common.{◌≡◌, map, take}
use Rattle.std.specs.List.{All}
use Rattle.viz_kept.specs.True.{HasStamp}
use Rattle.viz_plan_walk.specs.Walk.{named}
use Rattle.viz_plan.specs.Told.{needs_in}
use Rattle.viz_plan.proofs.keys.all_keyed.Given as goal

abbrev pub invariant-loop-level : goal.invariant-loop-level
invariant-loop-level l = record {
  needs : map (λ keys. needs_in keys.items) l.all.items ≡ map (λ needs. named needs.items) (take l.level-index l.levels);
  stamps : All (λ keys. All (HasStamp l.stamps) keys.items) l.all.items;
}
