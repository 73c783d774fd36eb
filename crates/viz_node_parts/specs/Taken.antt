-- Which parts at its ports a node takes for a request (VTK User's Guide, the executive: the request
-- pass, and "Streaming").
use Rattle.std.specs.Prelude.{◌≡◌, ℕ, ◌<◌, List, [], ◌∷◌, All, Option, None, Some}
use Rattle.viz_dataset.specs.Images.{ImageData, IsSpacing}
use Rattle.viz_extent.specs.Extent.{Bounds}
use Rattle.viz_extent.specs.Parts.{IsPart, Rate, grown, spread}
use Rattle.viz_kinds.specs.declared.settings.Settings.{Settings}
use Rattle.viz_kinds.specs.declared.settings.Settings.TheVariants as settings
use Rattle.viz_meaning.specs.ImageFilters.{wider_steps}
use Rattle.viz_node_meaning.specs.Data.{radius_with}
use Rattle.viz_node_meaning.specs.Information.{fed_at, rate_with}
use Rattle.viz_node_meaning.specs.Rules.{Inputs}
use Rattle.viz_parts.specs.declared.request.Part.{Part}
use Rattle.viz_parts.specs.declared.request.Part.TheVariants.{Image}
use Rattle.viz_parts.specs.declared.request.Request.{Request}
use Rattle.viz_parts.specs.declared.request.Request.TheVariants.{Block, Piece}
use Rattle.viz_piece_divisions.specs.Answers.{IsFitPart, IsOfMesh}
use Rattle.viz_piece_tets.specs.Asked.{asked}

-- ---- blocks of images

-- a block is asked for, and the part at the port is an image that has what it takes
abbrev pub TakesImage : (Bounds → ImageData → Type 0) → Request → Option Part → Type 0
TakesImage Has (Block out) (Some (Image input)) = Has out input
TakesImage Has _ _ = ⊥

-- the points of the block
abbrev pub HoldsBlock : Bounds → ImageData → Type 0
HoldsBlock out input = IsPart input.extent out

-- the points that a sample has of the block, with steps that an image may have
abbrev pub HasMultiples : Rate → Bounds → ImageData → Type 0
HasMultiples rate out input =
    IsPart input.extent (spread rate out) × IsSpacing (wider_steps rate input.spacing)

-- the points around a block of the whole, as far as the whole reaches
abbrev pub HasPointsAround : ℕ → Option Bounds → Bounds → ImageData → Type 0
HasPointsAround radius None out input = ⊥
HasPointsAround radius (Some whole) out input =
    IsPart whole out × IsPart input.extent (grown radius whole out)

-- ---- pieces

-- a piece is asked for, and the part at the port is an image on the planes that the piece asks for
abbrev pub TakesSlab : Option Bounds → Request → Option Part → Type 0
TakesSlab (Some whole) (Piece p n ghosts) (Some (Image slab)) =
    (p < n) × (slab.extent ≡ asked p n ghosts whole)
TakesSlab _ _ _ = ⊥

-- the part at the port is one of a mesh
abbrev pub TakesMesh : Option Part → Type 0
TakesMesh (Some part) = IsOfMesh part
TakesMesh None = ⊥

-- so it is, and each of its sheets fits
abbrev pub TakesFitMesh : Option Part → Type 0
TakesFitMesh (Some part) = IsOfMesh part × IsFitPart part
TakesFitMesh None = ⊥

-- what sections are made of: the planes of an image, or a part of a mesh
abbrev pub TakesEither : Option Bounds → Request → Option Part → Type 0
TakesEither (Some whole) request input = TakesSlab (Some whole) request input
TakesEither None request input = TakesFitMesh input

-- a piece is asked for, and the part at the port is one of a mesh
abbrev pub TakesPiece : Request → Option Part → Type 0
TakesPiece (Piece p n ghosts) input = TakesMesh input
TakesPiece (Block out) input = ⊥

-- the parts at the ports that are fed, ports ascending
abbrev pub parts_fed : Inputs Part → List Part
parts_fed [] = []
parts_fed (None ∷ inputs) = parts_fed inputs
parts_fed (Some part ∷ inputs) = part ∷ parts_fed inputs

-- ---- all kinds

-- the parts that a node with these parameters takes for a request, where the image at its ports has
-- this extent; a writer makes no parts
abbrev pub TakesParts : Settings → Option Bounds → Request → Inputs Part → Type 0
TakesParts (settings.File array unit) whole request inputs = Unit {0}
TakesParts (settings.Crop x0 x1 y0 y1 z0 z1) whole request inputs =
    TakesImage HoldsBlock request (fed_at 1 inputs)
TakesParts (settings.Sample x y z) whole request inputs =
    TakesImage (HasMultiples (rate_with x y z)) request (fed_at 1 inputs)
TakesParts (settings.Threshold lo hi) whole request inputs =
    TakesImage HoldsBlock request (fed_at 1 inputs)
TakesParts (settings.Smooth radius) whole request inputs =
    TakesImage (HasPointsAround (radius_with radius) whole) request (fed_at 1 inputs)
TakesParts (settings.Arith op) whole request inputs =
    TakesImage HoldsBlock request (fed_at 1 inputs)
    × TakesImage HoldsBlock request (fed_at 2 inputs)
TakesParts settings.Tets whole request inputs = TakesSlab whole request (fed_at 1 inputs)
TakesParts (settings.Select lo hi all) whole request inputs = TakesMesh (fed_at 1 inputs)
TakesParts (settings.Contour count levels) whole request inputs =
    TakesEither whole request (fed_at 1 inputs)
TakesParts (settings.Cut a b c r) whole request inputs =
    TakesEither whole request (fed_at 1 inputs)
TakesParts settings.Append whole request inputs = All IsOfMesh (parts_fed inputs)
TakesParts settings.Boundary whole request inputs = TakesPiece request (fed_at 1 inputs)
TakesParts settings.Merge whole request inputs = TakesMesh (fed_at 1 inputs)
TakesParts (settings.Writer binary digits version) whole request inputs = ⊥
