use Rattle.std.proofs.Common.{◌≡◌, None, map, sym, ap, subst, ◌∙◌}
use Rattle.std.specs.Prelude.{option_map}
use Rattle.std.specs.Map.Iter.{deref_pair}
use Rattle.lru.specs.LruCache.{last_entry}
use Rattle.std.specs.List.{IsDistinct}
use Rattle.viz_cache.specs.Keys.{same_key}
use Rattle.viz_cache.specs.Cache.{CacheData, last_key}
use Rattle.viz_parts.specs.contracts.stored.KeyPartialEq.TheImpl as equality
use Rattle.viz_cache.proofs.KeyLemmas.{key_eq}
use Rattle.viz_cache.proofs.PairLemmas.{distinct_items, last-items}
use Rattle.viz_cache.proofs.cache.Cache.last.Goals as goal

pub returns-in-Some-clause-distinct : goal.returns-in-Some-clause-distinct
returns-in-Some-clause-distinct c =
    subst (λ (d : CacheData). IsDistinct same_key (map (λ e. e.key) d.entries)) c.self.view_is
    (distinct_items c.self.inside.empty (equality.ghosts).eq key_eq c.self.inside.held.entries c.len.ensures.valid.0)

pub returns-in-None-clause-distinct : goal.returns-in-None-clause-distinct
returns-in-None-clause-distinct c =
    subst (λ (d : CacheData). IsDistinct same_key (map (λ e. e.key) d.entries)) c.self.view_is
    (distinct_items c.self.inside.empty (equality.ghosts).eq key_eq c.self.inside.held.entries c.len.ensures.valid.0)

pub returns-in-None-clause-key : goal.returns-in-None-clause-key
returns-in-None-clause-key c =
    let none : None ≡ last_entry c.self.inside.held.entries = ap (option_map deref_pair) (sym c.in-None.is) ∙ c.peek_lru.ensures in
    ap (option_map (λ e. e.0)) none ∙ (sym (last-items c.self.inside.empty c.self.inside.held.entries) ∙ ap (λ d. last_key d.entries) c.self.view_is)
