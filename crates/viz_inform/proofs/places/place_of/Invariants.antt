use Rattle.std.proofs.Common.{◌≡◌, ℕ, ◌<◌, slice_get, Some}
use Rattle.viz_network.specs.Step.{nodes_of}
use Rattle.viz_inform.proofs.places.place_of.Given as goal

-- no step so far is that of the node
abbrev pub invariant-loop-place : goal.invariant-loop-place
invariant-loop-place l = (p : ℕ) → p < l.place → slice_get (nodes_of l.steps) p ≡ Some l.node → ⊥
