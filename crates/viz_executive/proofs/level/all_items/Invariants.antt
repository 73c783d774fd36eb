use Rattle.std.proofs.Common.{◌≡◌, map}
use Rattle.viz_executive.proofs.DoneLemmas.{came_out}
use Rattle.viz_executive.proofs.level.all_items.Given as goal

abbrev pub invariant-loop-item : goal.invariant-loop-item
invariant-loop-item l = record { items : l.yielded ≡ map came_out l.all.items }
