use Rattle.std.proofs.Common.{rules, ◌≡◌, map, sym, subst}
use Rattle.std.specs.List.{IsDistinct}
use Rattle.viz_cache.specs.Keys.{same_key}
use Rattle.viz_cache.specs.Steps.Pairs.{items_of}
use Rattle.viz_parts.specs.contracts.stored.KeyPartialEq.TheImpl as equality
use Rattle.viz_cache.proofs.KeyLemmas.{key_eq}
use Rattle.viz_cache.proofs.PairLemmas.{distinct_items}
use Rattle.viz_cache.proofs.cache.Cache.entries.Goals as goal

pub returns-clause-distinct : goal.returns-clause-distinct
returns-clause-distinct c =
    let es = c.self.inside.held.entries in
    let all : c.loop-key.all.items ≡ items_of c.self.inside.empty es = search rules in
    subst (λ l. IsDistinct same_key (map (λ e. e.key) l)) (sym all) (distinct_items c.self.inside.empty (equality.ghosts).eq key_eq es c.len.ensures.valid.0)
