use Rattle.std.proofs.Common.{◌≡◌, ap, arith, drop, length, List, rules, subst, ℕ, ◌++◌, ◌∙◌}
use Rattle.std.specs.List.{filter}
use Rattle.std.specs.List.Sorted.{IsPermutation}
use Rattle.std.proofs.lemmas.Fn.{filter_same}
use Rattle.std.proofs.lemmas.List.{take_at}
use Rattle.std.proofs.lemmas.List.Sorted.{length_permutation}
use Rattle.viz_boundary.specs.Steps.Slots.{is_taken}
use Rattle.viz_boundary.proofs.SlotLemmas.{all-keys}
use Rattle.viz_boundary.proofs.slots.Slots.into_keys.Goals as goal

pub returns : goal.returns
returns c =
    let s = c.args.self in
    let left = c.retain.new.self.items in
    let moved = c.sort_groups.new.keys in
    let kept : left ≡ filter is_taken s.keys.items = filter_same _ _ _ (λ x b f' k. search rules) _ _ c.retain.ensures.filtered in
    let sorted : IsPermutation left moved = subst (λ (ks : List ℕ). IsPermutation ks moved) c.deref_mut.ensures.value c.sort_groups.ensures in
    let size : length moved ≡ length left = length_permutation left moved sorted in
    all-keys s.keys.items s.rest.items left moved c.append.new.self.items kept sorted
    (c.in_ok-append.ensures.items ∙ ap (λ t. t ++ s.rest.items) (take_at moved (drop (length moved) left) c.retain.new.self.len (omega (arith, size, c.retain.new.self.ok.0))))
