use Rattle.std.proofs.Common.{◌≡◌, rules, ◌∙◌, sym, ap}
use Rattle.std.specs.Prelude.{is_some}
use Rattle.std.specs.Map.{lookup}
use Rattle.viz_cache.specs.Keys.{same_key}
use Rattle.viz_cache.specs.Cache.{has_key, brought_first}
use Rattle.viz_cache.specs.Steps.Pairs.{items_of}
use Rattle.viz_cache.proofs.PairLemmas.{has_key-items, brought_first-items, promoted-same}
use Rattle.viz_cache.proofs.cache.Cache.find.Goals as goal

pub returns-clause-found : goal.returns-clause-found
returns-clause-found c =
    let key = c.args.key.now in
    let seen : c.promote.result ≡ is_some (lookup (same_key key) c.self.inside.held.entries) = search rules in
    seen ∙ (sym (has_key-items c.self.inside.empty key c.self.inside.held.entries) ∙ ap (λ d. has_key key d.entries) c.self.view_is)

pub returns-clause-entries : goal.returns-clause-entries
returns-clause-entries c =
    let key = c.args.key.now in
    let es = c.self.inside.held.entries in
    ap (λ h. items_of c.self.inside.empty h.entries) c.promote.ensures.entries
    ∙ (ap (items_of c.self.inside.empty) (promoted-same _ (same_key key) (λ k. search rules) es)
    ∙ (sym (brought_first-items c.self.inside.empty key es) ∙ ap (λ d. brought_first key d.entries) c.self.view_is))
