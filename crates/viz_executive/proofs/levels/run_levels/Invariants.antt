use Rattle.std.proofs.Common.{◌≡◌, length, take}
use Rattle.viz_executive.specs.Steps.Tasks.{IsDone, all_needs}
use Rattle.viz_executive.proofs.levels.run_levels.Given as goal

abbrev pub invariant-loop-keys : goal.invariant-loop-keys
invariant-loop-keys g l = record {
  number : l.ran ≡ length (all_needs (take l.keys-index l.levels));
  done : IsDone l.ground.sites.net (all_needs (take l.keys-index l.levels)) l.done.table.items l.done.made.items;
}
