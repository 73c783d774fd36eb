use Rattle.std.proofs.Common.{◌≡◌, drop}
use Rattle.viz_history.specs.Publishing.{all_brought}
use Rattle.viz_history.proofs.publishing.bring_all.Given as goal

-- with the keys that are left, the entries are those of all keys
abbrev pub invariant-loop-key : goal.invariant-loop-key
invariant-loop-key l = record {
  entries : all_brought (drop l.key-index l.used) l.cache.entries ≡ all_brought l.used l.initial.cache.entries;
  capacity : l.cache.capacity ≡ l.initial.cache.capacity;
}
