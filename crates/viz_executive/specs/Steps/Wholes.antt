-- Parts of the node of an update for all of its requests. Only private contracts and proofs speak
-- of it.
use Rattle.std.specs.Prelude.{◌≡◌, List, map, Ok}
use Rattle.std.specs.List.{All, AllZip}
use Rattle.viz_dataset.specs.declared.dataset.Dataset.{Dataset}
use Rattle.viz_network.specs.Cone.{cone_of}
use Rattle.viz_node_division.specs.Exact.{ExactRule}
use Rattle.viz_node_meaning.specs.Fold.{IsGiven}
use Rattle.viz_parts.specs.declared.request.Part.{Part}
use Rattle.viz_parts.specs.declared.request.Request.{Request}
use Rattle.viz_plan_law.specs.Cutting.{IsExactPart}
use Rattle.viz_executive.specs.declared.wholes.Answered.{Answered}
use Rattle.viz_executive.specs.Steps.Grounds.{GroundData}

-- a part of the node of the update by the exact rule, for a request
pub record IsAnswered (g : GroundData) (request : Request) (part : Part) : Type 0 where
  pub exact : IsExactPart (cone_of g.sites.net g.sink) request part

-- each of some requests has one
abbrev pub AreAnswered : GroundData → List Request → List Part → Type 0
AreAnswered g requests parts = AllZip (IsAnswered g) requests parts

-- requests with their parts, which several may own
pub record AreAllAnswered (g : GroundData) (items : List Answered) : Type 0 where
  pub requests : map (λ a. a.request) items ≡ g.requests
  pub each : All (λ a. IsAnswered g a.request a.part) items

-- what the node of the update gives by the exact rule
pub record IsWhole (g : GroundData) (whole : Dataset) : Type 0 where
  pub given : IsGiven ExactRule (cone_of g.sites.net g.sink) (Ok whole)
