use Rattle.std.proofs.Common.{◌≡◌, ◌++◌}
use Rattle.viz_cache.specs.Steps.Pairs.{items_of}
use Rattle.viz_cache.proofs.cache.Cache.entries.Given as goal

abbrev pub invariant-loop-key : goal.invariant-loop-key
invariant-loop-key l = l.all.items ++ items_of l.empty l.key-iterator ≡ l.self.entries
