use Rattle.std.proofs.Common.{◌≡◌, [], ◌++◌, ap, ap₂, replicate, rules, ◌∙◌}
use Rattle.std.specs.List.{filter}
use Rattle.viz_boundary.specs.declared.slots.TheConstants.{FREE}
use Rattle.viz_boundary.specs.Steps.Slots.{is_taken}
use Rattle.viz_boundary.proofs.SlotLemmas.{none-held}
use Rattle.viz_boundary.proofs.slots.Slots.of_cells.Goals as goal

pub returns : goal.returns
returns c =
    let free : c.in_ok-keys.keys.items ≡ replicate c.make_starts-count.result FREE = search rules in
    ap₂ (λ ks rs. filter is_taken ks ++ rs) free c.new-rest.ensures.items ∙ ap (λ ks. ks ++ []) (none-held c.make_starts-count.result)
