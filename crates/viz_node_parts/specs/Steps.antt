-- What is asked for and at a port, and what sections come to. Only private contracts and proofs
-- speak of it.
use Rattle.std.specs.Prelude.{List, Option, None, Some, Result, Ok, Err}
use Rattle.viz_extent.specs.Extent.{Bounds}
use Rattle.viz_fraction.specs.declared.forms.Form.{Form}
use Rattle.viz_meaning.specs.declared.stop.WorkStop.{WorkStop}
use Rattle.viz_meaning.specs.declared.stop.WorkStop.TheVariants as work
use Rattle.viz_network.specs.declared.fault.Cause.TheVariants.{TooWide}
use Rattle.viz_node_rules.specs.declared.stop.OwnStop.{OwnStop}
use Rattle.viz_node_rules.specs.declared.stop.OwnStop.TheVariants.{Cause as Caused, Memory}
use Rattle.viz_parts.specs.declared.request.Part.{Part}
use Rattle.viz_parts.specs.declared.request.Part.TheVariants.{Image, Mesh}
use Rattle.viz_parts.specs.declared.request.Request.{Request}
use Rattle.viz_parts.specs.declared.request.Request.TheVariants.{Block, Piece}
use Rattle.viz_node_parts.specs.Made.{IsNarrowInput, MakesNarrow}

-- a block is asked for
abbrev pub AsksBlock : Request → Type 0
AsksBlock (Block out) = Unit {0}
AsksBlock (Piece p n ghosts) = ⊥

-- a piece is asked for
abbrev pub AsksPiece : Request → Type 0
AsksPiece (Piece p n ghosts) = Unit {0}
AsksPiece (Block out) = ⊥

-- there is an image at the port
abbrev pub HasImage : Option Part → Type 0
HasImage (Some (Image image)) = Unit {0}
HasImage (Some (Mesh parts)) = ⊥
HasImage None = ⊥

-- ---- causes

-- what sections come to, unless memory runs out
abbrev pub AreSections :
    List Form → Option Bounds → Request → Option Part → Result Part WorkStop → Type 0
AreSections forms whole request input (Ok part) = MakesNarrow forms whole request input part
AreSections forms whole request input (Err work.TooWide) = IsNarrowInput forms input → ⊥
AreSections forms whole request input (Err work.Memory) = Unit {0}

-- a stop of sections
abbrev pub stop_of : WorkStop → OwnStop
stop_of work.TooWide = Caused TooWide
stop_of work.Memory = Memory
