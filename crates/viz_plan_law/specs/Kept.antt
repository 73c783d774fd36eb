-- What is found among true entries for a request (VTK User's Guide, "Streaming").
use Rattle.std.specs.Prelude.{◌≡◌, ℕ, true, Some}
use Rattle.viz_kept.specs.True.{AreTrueIn, IsNodePart}
use Rattle.viz_network.specs.Cone.{cone_of}
use Rattle.viz_parts.specs.declared.request.Part.{Part}
use Rattle.viz_parts.specs.declared.request.Request.{Request}
use Rattle.viz_plan_meaning.specs.Known.{Known, kept_at}
use Rattle.viz_requests.specs.Serving.{serves}

-- what is found for a request at a node is a part that it gives for one that serves the request
abbrev pub KeptPartsServe : Type 0
KeptPartsServe =
    (k : Known) (id : ℕ) (wanted : Request) (e : Request × Part) → AreTrueIn k.net k.entries
    → kept_at k id wanted ≡ Some e
    → IsNodePart (cone_of k.net id) e.0 e.1 × (serves e.0 wanted ≡ true)
