-- Cutting parts of what a node gives for requests that they serve (VTK User's Guide, "Streaming").
use Rattle.std.specs.Prelude.{◌≡◌, ℕ, true, Option, Some}
use Rattle.viz_dataset.specs.declared.dataset.Dataset.{Dataset}
use Rattle.viz_extent.specs.Extent.{Bounds}
use Rattle.viz_kept.specs.True.{IsDatasetPart, IsNodePart}
use Rattle.viz_network.specs.Cone.{Cone, Tree, cone_of}
use Rattle.viz_network.specs.declared.node.Node.{Node}
use Rattle.viz_node_division.specs.Divided.{IsDivided}
use Rattle.viz_parts.specs.Pieces.{Covers, Division, IsAnswer}
use Rattle.viz_parts.specs.declared.request.Part.{Part}
use Rattle.viz_parts.specs.declared.request.Request.{Request}
use Rattle.viz_piece_restrict.specs.Restricting.{
  IsOneOfMany,
  IsRestriction,
  IsSomeAnswer,
  LetsRestrict,
}
use Rattle.viz_plan_meaning.specs.Known.{Known, widened_at}
use Rattle.viz_requests.specs.Serving.{serves}
use Rattle.viz_requests.specs.Upstream.{Fits, widened}

-- a kept request that serves a wanted one covers it
abbrev pub ServedAreCovered : Type 0
ServedAreCovered =
    (kept wanted : Request) → IsOneOfMany wanted → serves kept wanted ≡ true → Covers kept wanted

-- where it does, the division of what a node gives lets its part be cut
abbrev pub ServedPartsAreCut : Type 0
ServedPartsAreCut =
    (cone : Option Tree) (whole : Dataset) (division : Division) (kept wanted : Request)
    (part : Part)
    → IsDivided cone whole division → IsAnswer whole division kept part
    → IsOneOfMany wanted → serves kept wanted ≡ true
    → LetsRestrict whole division kept wanted

-- a part answers a request of what the node at the foot of a cone gives by the exact rule
pub record IsExactPart (cone : Option Tree) (request : Request) (part : Part) : Type 0 where
  pub whole : Dataset
  pub one : IsDatasetPart cone whole request part

-- a part that the node gives from scratch does
abbrev pub NodePartsAreExact : Type 0
NodePartsAreExact =
    (cone : Option Tree) (request : Request) (part : Part) → IsNodePart cone request part
    → IsExactPart cone request part

-- all that cutting a part for a wanted request needs; and what is cut is a part of the node, which
-- it gives from scratch where it gives the part so
pub record CanBeCut (cone : Option Tree) (kept wanted : Request) (part : Part) : Type 0 where
  pub covers : Covers kept wanted
  pub counted : IsOneOfMany wanted
  pub answers : IsSomeAnswer kept part
  pub exact : (cut : Part) → IsRestriction kept wanted part cut → IsExactPart cone wanted cut
  pub gives : (cut : Part) → IsRestriction kept wanted part cut → IsNodePart cone kept part
      → IsNodePart cone wanted cut

-- each part that a node gives can be cut for each request that its own serves
abbrev pub PartsThatServeAreCut : Type 0
PartsThatServeAreCut =
    (cone : Option Tree) (kept wanted : Request) (part : Part) → IsExactPart cone kept part
    → IsOneOfMany wanted → serves kept wanted ≡ true → CanBeCut cone kept wanted part

-- so it can where its own serves what the node makes for one that fits an image or a mesh
abbrev pub PartsOfWidenedAreCut : Type 0
PartsOfWidenedAreCut =
    (n : Node) (cone : Cone) (own : Option Bounds) (kept wanted : Request) (part : Part)
    → IsExactPart (Some (n, cone)) kept part → Fits own wanted
    → serves kept (widened n.settings own wanted) ≡ true
    → CanBeCut (Some (n, cone)) kept wanted part

-- the same by what is known of a node of a network
abbrev pub PartsOfKnownAreCut : Type 0
PartsOfKnownAreCut =
    (k : Known) (id : ℕ) (kept wanted : Request) (part : Part)
    → IsExactPart (cone_of k.net id) kept part → Fits (k.extent id) wanted
    → serves kept (widened_at k id wanted) ≡ true
    → CanBeCut (cone_of k.net id) kept wanted part
