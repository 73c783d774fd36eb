use Rattle.std.proofs.Common.{◌∙◌, Some, sym, ap}
use Rattle.viz_cache.specs.Keys.{same_key}
use Rattle.viz_cache.specs.Cache.{with_item}
use Rattle.viz_cache.specs.Steps.Pairs.{items_of}
use Rattle.viz_parts.specs.contracts.stored.KeyPartialEq.TheImpl as equality
use Rattle.viz_cache.proofs.KeyLemmas.{key_eq}
use Rattle.viz_cache.proofs.PairLemmas.{with_item-items, put_entries-same}
use Rattle.viz_cache.proofs.cache.Cache.put.Goals as goal

pub returns-in-Ok-clause-ok : goal.returns-in-Ok-clause-ok
returns-in-Ok-clause-ok c =
    let item = c.args.item.now in
    let held = c.self.inside.held in
    ap (λ h. items_of c.self.inside.empty h.entries) c.in-Ok.ensures.entries
    ∙ (ap (items_of c.self.inside.empty) (put_entries-same (equality.ghosts).eq same_key key_eq held item.key (Some c.in_ok-part.part) (Some item.part) (ap Some c.in_ok-part.ensures.value))
    ∙ (sym (with_item-items c.self.inside.empty held item) ∙ ap (λ d. with_item d.capacity item d.entries) c.self.view_is))
