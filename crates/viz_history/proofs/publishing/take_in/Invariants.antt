use Rattle.std.proofs.Common.{◌≡◌, ◌+◌, take}
use Rattle.viz_history.specs.Publishing.{TakesIn}
use Rattle.viz_history.proofs.publishing.take_in.Given as goal

-- the parts so far are taken in
abbrev pub invariant-loop-item : goal.invariant-loop-item
invariant-loop-item l = record {
  takes : TakesIn l.stamps l.initial.cache.capacity (take l.item-index l.made) l.initial.cache.entries l.count l.cache.entries;
  capacity : l.cache.capacity ≡ l.initial.cache.capacity;
  count : l.count.kept + l.count.stale + l.count.unkept ≡ l.item-index;
}
