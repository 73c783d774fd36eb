-- The place of a node's step.
use Rattle.std.proofs.Common.{◌≡◌, ℕ, ◌+◌, ◌<◌, ◌≤◌, Bool, true, false, nat_eq, List, length, get_or, slice_get, Some, refl, sym, ap, ◌∙◌, arith}
use Rattle.std.proofs.lemmas.Bool.{eqb-true}
use Rattle.std.proofs.lemmas.Bool.Decides.{nat_tests}
use Rattle.std.proofs.lemmas.List.{length-map}
use Rattle.std.proofs.lemmas.Option.{slice_get_within, slice_get-get_or}
use Rattle.viz_base.specs.declared.node.NodeId.{NodeId}
use Rattle.viz_network.specs.declared.steps.Step.{Step}
use Rattle.viz_network.specs.Step.{nodes_of}
use Rattle.viz_inform.proofs.TableLemmas.{step_node}

-- no step so far is that of the node, nor the next one
pub place_more : (steps : List Step) (node : NodeId) (k : ℕ) (d : Step) → k < length steps → false ≡ nat_eq (get_or steps k d).node.0 node.0
    → ((p : ℕ) → p < k → slice_get (nodes_of steps) p ≡ Some node → ⊥) → (p : ℕ) → p < k + 1 → slice_get (nodes_of steps) p ≡ Some node → ⊥
place_more steps node k d within differs none p l at = by (nat_eq p k) refl
  where
    by : (b : Bool) → nat_eq p k ≡ b → ⊥
    by true e =
        let here = step_node steps k (get_or steps k d) (slice_get-get_or steps k d within) in
        let one : Some (get_or steps k d).node ≡ Some node = sym here ∙ sym (ap (slice_get (nodes_of steps)) (eqb-true p k e)) ∙ at in
        let same : (get_or steps k d).node ≡ node = cc in
        let index = ap (λ (n : NodeId). n.0) same in
        grind (arith, nat_tests)
    by false e = none p (let before : p < k = grind (arith, nat_tests) in before) at

-- no step is that of the node
pub place_none : (steps : List Step) (node : NodeId) (k : ℕ) → length steps ≤ k → ((p : ℕ) → p < k → slice_get (nodes_of steps) p ≡ Some node → ⊥)
    → (p : ℕ) → slice_get (nodes_of steps) p ≡ Some node → ⊥
place_none steps node k all none p at =
    let within = slice_get_within (nodes_of steps) p node at in
    let size = length-map steps (λ (s : Step). s.node) in
    none p (omega (arith, within, size, all)) at
