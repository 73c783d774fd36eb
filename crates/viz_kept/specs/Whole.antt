-- A whole dataset as one part (VTK User's Guide, "Streaming").
use Rattle.std.specs.Prelude.{Option, Ok}
use Rattle.viz_dataset.specs.declared.dataset.Dataset.{Dataset}
use Rattle.viz_dataset.specs.declared.dataset.Dataset.TheVariants as dataset
use Rattle.viz_network.specs.Cone.{Tree}
use Rattle.viz_parts.specs.declared.request.Part.{Part}
use Rattle.viz_parts.specs.declared.request.Request.{Request}
use Rattle.viz_parts.specs.declared.request.Request.TheVariants.{Block, Piece}
use Rattle.viz_node_meaning.specs.Scratch.{IsScratchOf}
use Rattle.viz_kept.specs.True.{IsNodePart}

-- the request for all of a dataset: an image's extent, or a mesh's only piece without ghost cells
abbrev pub whole_request : Dataset → Request
whole_request (dataset.Image image) = Block image.extent
whole_request (dataset.Mesh sheets) = Piece 0 1 0

-- the part answers the request of each node that gives this dataset
pub record IsWholePart (whole : Dataset) (request : Request) (part : Part) : Type 0 where
  pub each : (cone : Option Tree) → IsScratchOf cone (Ok whole) → IsNodePart cone request part
