-- The steps upstream of a step, and the needs of a walk. Only private contracts and proofs speak of
-- it.
use Rattle.std.specs.Prelude.{ℕ, zero, suc}
use Rattle.std.specs.Prelude.{List, [], ◌∷◌, map, slice_get, Option, None, Some}
use Rattle.std.specs.Option.{option_map}
use Rattle.viz_network.specs.declared.steps.Step.{Step}
use Rattle.viz_parts.specs.declared.request.Request.{Request}
use Rattle.viz_plan_meaning.specs.Plan.{Upstream, none, empty, fed}
use Rattle.viz_plan_walk.specs.declared.walk.Need.{Need}

-- one port before the others
abbrev pub port : Option (ℕ × Upstream) → Upstream → Upstream
port None c = empty c
port (Some t) c = fed t.0 t.1 c

-- the ports with what feeds each, by places of steps
abbrev pub grow : (ℕ → Option (ℕ × Upstream)) → List (Option ℕ) → Upstream
grow up [] = none
grow up (None ∷ places) = empty (grow up places)
grow up (Some p ∷ places) = port (up p) (grow up places)

-- the step at a place with what lies fewer than so many steps upstream
abbrev pub above : ℕ → List Step → ℕ → Option (ℕ × Upstream)
above zero steps p = None
above (suc k) steps p =
    option_map (λ s. (s.node.0, grow (above k steps) s.inputs)) (slice_get steps p)

-- a step, as one port
abbrev pub to_step : ℕ → List Step → ℕ → Upstream
to_step k steps p = grow (above k steps) (Some p ∷ [])

-- the needs of a list
abbrev pub named : List Need → List (ℕ × Request)
named needs = map (λ n. (n.node.0, n.request)) needs
