-- One step of a look for what a node feeds.
use Rattle.std.proofs.Common.{◌≡◌, ℕ, zero, suc, ◌+◌, true, false, ◌||◌, [], ◌∷◌, drop, slice_get, Some, sym, ap, ◌∙◌, add-one}
use Rattle.std.specs.Map.{values_of}
use Rattle.viz_network.specs.declared.node.Node.{Node}
use Rattle.viz_network.specs.Network.{Network}
use Rattle.viz_network.specs.Edits.{is_input, is_used}

used_from : (id : ℕ) (net : Network) (i : ℕ) (n : Node) → slice_get (values_of net) i ≡ Some n → is_used id (drop i net) ≡ (is_input id n.inputs || is_used id (drop (suc i) net))
used_from id [] i n at = let bad : ⊥ = cc in absurd bad
used_from id (e ∷ net) zero n at = let same : e.1 ≡ n = cc in ap (λ (m : Node). is_input id m.inputs || is_used id net) same
used_from id (e ∷ net) (suc i) n at = used_from id net i n at

pub used_here : (id : ℕ) (net : Network) (i : ℕ) (n : Node) → slice_get (values_of net) i ≡ Some n → is_input id n.inputs ≡ true → is_used id (drop i net) ≡ true
used_here id net i n at h = used_from id net i n at ∙ ap (λ b. b || is_used id (drop (suc i) net)) h

pub used_next : (id : ℕ) (net : Network) (i : ℕ) (n : Node) → slice_get (values_of net) i ≡ Some n → is_input id n.inputs ≡ false → is_used id (drop (i + 1) net) ≡ is_used id (drop i net)
used_next id net i n at h = ap (λ k. is_used id (drop k net)) (add-one i) ∙ sym (used_from id net i n at ∙ ap (λ b. b || is_used id (drop (suc i) net)) h)
