use Rattle.std.proofs.Common.{◌≡◌, take}
use Rattle.std.specs.List.{All}
use Rattle.viz_kept.specs.True.{HasStamp}
use Rattle.viz_plan_walk.specs.Walk.{named}
use Rattle.viz_plan.specs.Told.{needs_in}
use Rattle.viz_plan.proofs.keys.keyed.Given as goal

abbrev pub invariant-loop-need : goal.invariant-loop-need
invariant-loop-need l = record {
  needs : needs_in l.keys.items ≡ named (take l.need-index l.needs);
  stamps : All (HasStamp l.stamps) l.keys.items;
}
