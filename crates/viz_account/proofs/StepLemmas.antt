-- The step of a node.
use Rattle.std.proofs.Common.{◌≡◌, ℕ, zero, suc, List, [], ◌∷◌, slice_get, Some, refl}
use Rattle.viz_base.specs.declared.node.NodeId.{NodeId}
use Rattle.viz_network.specs.declared.steps.Step.{Step}
use Rattle.viz_network.specs.Step.{nodes_of}

-- the step at the place of a node
pub step_there : (steps : List Step) (k : ℕ) (id : NodeId) → slice_get (nodes_of steps) k ≡ Some id → (s : Step) × (slice_get steps k ≡ Some s) × (s.node ≡ id)
step_there [] k id at = let bad : ⊥ = cc in absurd bad
step_there (s ∷ steps) zero id at = (s, refl, (let e : s.node ≡ id = cc in e))
step_there (s ∷ steps) (suc k) id at = step_there steps k id at
