-- Parts at places, one after the other, are parts at the ports.
use Rattle.std.proofs.Common.{◌≡◌, ℕ, List, [], ◌∷◌, Option, None, Some, refl, subst}
use Rattle.viz_base.specs.declared.node.NodeId.{NodeId}
use Rattle.viz_network.specs.Cone.{cone_of}
use Rattle.viz_network.specs.Network.{Network}
use Rattle.viz_parts.specs.declared.request.Part.{Part}
use Rattle.viz_parts.specs.declared.request.Request.{Request}
use Rattle.viz_plan_law.specs.Cutting.{IsExactPart}
use Rattle.viz_plan_meaning.specs.Evaluation.{IsFed}
use Rattle.viz_plan_meaning.specs.Known.{Known, asked_at}
use Rattle.viz_plan_meaning.specs.Laws.{inputs_of}
use Rattle.viz_plan_walk.specs.TaskSteps.{AreSourced}
use Rattle.viz_task_parts.specs.Tasks.{HasParts}
use Rattle.viz_executive.specs.Steps.Tables.{AreFetched, IsPartAt}

module _ (net : Network) (order : List NodeId) (request : Request) where
  -- a node has a part by the exact rule
  abbrev Has : ℕ → Request → Part → Type 0
  Has id r part = IsExactPart (cone_of net id) r part

  pub fed_of : (bound : ℕ) (ids : List (Option ℕ)) (places : List (Option ℕ))
      (parts : List (Option Part)) → AreSourced order bound ids places
      → AreFetched net order request places parts → IsFed Has request ids parts
  fed_of bound [] [] [] s f = refl
  fed_of bound (None ∷ ids) (None ∷ places) (None ∷ parts) s f =
      (parts, refl, fed_of bound ids places parts s f.1)
  fed_of bound (Some id ∷ ids) (Some p ∷ places) (Some part ∷ parts) s f = (
    part,
    parts,
    refl,
    subst (λ i. Has i request part) s.0.is
        (subst (λ n. IsPartAt net request n part) s.0.there f.0),
    fed_of bound ids places parts s.1 f.1,
  )
  fed_of bound [] [] (x ∷ parts) s f = absurd f
  fed_of bound [] (p ∷ places) parts s f = absurd s
  fed_of bound (None ∷ ids) [] parts s f = absurd s
  fed_of bound (None ∷ ids) (Some p ∷ places) parts s f = absurd s
  fed_of bound (None ∷ ids) (None ∷ places) [] s f = absurd f
  fed_of bound (None ∷ ids) (None ∷ places) (Some part ∷ parts) s f = absurd f.0
  fed_of bound (Some id ∷ ids) [] parts s f = absurd s
  fed_of bound (Some id ∷ ids) (None ∷ places) parts s f = absurd s
  fed_of bound (Some id ∷ ids) (Some p ∷ places) [] s f = absurd f
  fed_of bound (Some id ∷ ids) (Some p ∷ places) (None ∷ parts) s f = absurd f.0

-- parts at the places that feed the ports of a task's node
pub parts_are : (k : Known) (order : List NodeId) (bound : ℕ) (task : ℕ × Request)
    (request : Request) (places : List (Option ℕ)) (parts : List (Option Part))
    → request ≡ asked_at k task.0 task.1
    → AreSourced order bound (inputs_of k.net task.0) places
    → AreFetched k.net order request places parts → HasParts k task parts
parts_are k order bound task request places parts is s f = record {
  fed = subst (λ r. IsFed (Has k.net order request) r (inputs_of k.net task.0) parts) is
      (fed_of k.net order request bound (inputs_of k.net task.0) places parts s f);
}
