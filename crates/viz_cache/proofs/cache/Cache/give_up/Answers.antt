use Rattle.std.proofs.Common.{rules, ◌≡◌, None, sym, ap, ◌∙◌}
use Rattle.std.specs.Option.{option_copied_mut}
use Rattle.std.specs.Map.{lookup, set_value}
use Rattle.viz_cache.specs.Keys.{same_key}
use Rattle.viz_cache.specs.Cache.{replaced}
use Rattle.viz_cache.specs.Steps.Pairs.{items_of}
use Rattle.viz_cache.proofs.PairLemmas.{replaced-items, set_value-none, lookup-same, set_value-same}
use Rattle.viz_cache.proofs.cache.Cache.give_up.Goals as goal
use Rattle.viz_cache.proofs.cache.Cache.give_up.Goals.{in-Some+in-Some-1, in-Some+in-None-1, in_default}

pub returns-clause-entries : goal.returns-clause-entries
returns-clause-entries c =
    let key = c.args.key.now in
    let old = c.self.inside in
    let es = old.held.entries in
    let new = c.match-peek_mut.self-inside in
    let set : items_of new.empty new.held.entries ≡ items_of old.empty (set_value (same_key key) es None) = elim c.match-peek_mut.branch [
      | in-Some+in-Some-1 w ↦ ap (λ i. items_of i.empty i.held.entries) w.self-inside-is ∙ ap (items_of old.empty) (set_value-same _ (same_key key) (λ k. search rules) es None)
      | in-Some+in-None-1 w ↦ ap (λ i. items_of i.empty i.held.entries) w.self-inside-is ∙ ap (items_of old.empty) (set_value-same _ (same_key key) (λ k. search rules) es None)
      | in_default w ↦
          let none : lookup (same_key key) es ≡ None = sym (lookup-same _ (same_key key) (λ k. search rules) es) ∙ (sym c.peek_mut.ensures.value ∙ ap option_copied_mut w.in_default.is) in
          ap (λ i. items_of i.empty i.held.entries) w.self-inside-is ∙ ap (items_of old.empty) (sym (set_value-none (same_key key) es None none))
    ] in
    record {
      part = old.empty;
      empty = c.self.invariant;
      entries = set ∙ (sym (replaced-items old.empty key es) ∙ ap (λ d. replaced key old.empty d.entries) c.self.view_is);
    }
