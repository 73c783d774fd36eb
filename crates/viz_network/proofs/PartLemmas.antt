-- The two parts of an order are as long as the order.
use Rattle.std.proofs.Common.{◌≡◌, Bool, not, List, [], ◌++◌, length, length-append, filter, ap, ◌∙◌, arith}
use Rattle.std.proofs.lemmas.List.Filters.{length-filter_both}
use Rattle.viz_base.specs.declared.node.NodeId.{NodeId}

pub parts_long : (p q : NodeId → Bool) → ((x : NodeId) → q x ≡ not (p x)) → (order first second third : List NodeId) → second ≡ first ++ filter q order → first ≡ [] → third ≡ second ++ filter p order
    → length order ≡ length third
parts_long p q other order first second third a z b =
    let whole : third ≡ filter q order ++ filter p order = b ∙ ap (λ l. l ++ filter p order) (a ∙ ap (λ l. l ++ filter q order) z) in
    let sum = length-append (filter q order) (filter p order) in
    let both = length-filter_both p q other order in
    omega (arith, ap length whole, sum, both)
