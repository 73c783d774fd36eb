-- What a node makes for a request, and what it asks its inputs for (VTK User's Guide, the
-- executive: the request pass, and "Streaming").
use Rattle.std.specs.Prelude.{ℕ, ◌+◌, ◌<◌, ◌^◌, min, max, Option, None, Some}
use Rattle.std.specs.Option.{option_map_or}
use Rattle.viz_extent.specs.Extent.{Bounds}
use Rattle.viz_extent.specs.Parts.{Rate, IsPart, common, grown, sampled, spread}
use Rattle.viz_extent.specs.Slabs.{layers_of, planes}
use Rattle.viz_kinds.specs.declared.settings.Settings.{Settings}
use Rattle.viz_kinds.specs.declared.settings.Settings.TheVariants as settings
use Rattle.viz_parts.specs.declared.request.Request.{Request}
use Rattle.viz_parts.specs.declared.request.Request.TheVariants.{Block, Piece}

-- What is known of a dataset here is the extent of an image, and nothing of a mesh.

-- ---- parameters

-- a number, or the nearer end of its range
abbrev pub in_range : ℕ → ℕ → ℕ → ℕ
in_range least most n = max least (min most n)

-- the rate of a sample
abbrev pub sample_rate : ℕ → ℕ → ℕ → Rate
sample_rate x y z = record { x = in_range 1 1024 x; y = in_range 1 1024 y; z = in_range 1 1024 z }

-- the radius of a mean
abbrev pub mean_radius : ℕ → ℕ
mean_radius radius = in_range 0 8 radius

-- ---- requests

-- the request fits the dataset: a block of points of the image, or one of the pieces of the mesh
abbrev pub Fits : Option Bounds → Request → Type 0
Fits (Some whole) (Block block) = IsPart whole block
Fits None (Piece p n ghosts) = p < n
Fits _ _ = ⊥

-- the request for all of a dataset
abbrev pub all_of : Option Bounds → Request
all_of (Some whole) = Block whole
all_of None = Piece 0 1 0

-- what a filter makes of an image of this extent: an image of another extent, or a mesh
abbrev pub own_extent : Settings → Bounds → Option Bounds
own_extent (settings.Crop x0 x1 y0 y1 z0 z1) whole = Some
    (common whole (record { x0 = x0; x1 = x1; y0 = y0; y1 = y1; z0 = z0; z1 = z1 }))
own_extent (settings.Sample x y z) whole = Some (sampled (sample_rate x y z) whole)
own_extent settings.Tets whole = None
own_extent (settings.Contour count levels) whole = None
own_extent (settings.Cut a b c r) whole = None
own_extent _ whole = Some whole

-- what a filter makes of the dataset at its ports: of a mesh another mesh
abbrev pub extent_made : Settings → Option Bounds → Option Bounds
extent_made settings whole = option_map_or (own_extent settings) whole None

-- what a node makes for a request: a file and a merge make all
abbrev pub widened : Settings → Option Bounds → Request → Request
widened (settings.File array unit) own request = all_of own
widened settings.Merge own request = all_of own
widened _ own request = request

-- ---- what the inputs are asked for

-- the points that are sampled
abbrev pub spread_request : Rate → Request → Request
spread_request rate (Block block) = Block (spread rate block)
spread_request rate (Piece p n ghosts) = Piece p n ghosts

-- the points around a block, as far as the whole reaches
abbrev pub grown_request : ℕ → Option Bounds → Request → Request
grown_request by (Some whole) (Block block) = Block (grown by whole block)
grown_request by _ request = request

-- the planes of a piece's layers and of its ghost levels, of a piece without layers the lowest
-- plane
abbrev pub layers_block : ℕ → ℕ → ℕ → Bounds → Bounds
layers_block p n ghosts whole = option_map_or (λ b. b) (layers_of p n ghosts whole)
    (planes 0 0 whole)

-- what a section or the tetrahedra of an image are made of; of a mesh the same piece
abbrev pub layers_request : Option Bounds → Request → Request
layers_request (Some whole) (Piece p n ghosts) = Block (layers_block p n ghosts whole)
layers_request _ request = request

-- one ghost level more
abbrev pub more_ghosts : Request → Request
more_ghosts (Piece p n ghosts) = Piece p n (ghosts + 1)
more_ghosts (Block block) = Block block

-- what a node asks its inputs for, which have this extent; a file has none, and asks nobody
abbrev pub asked : Settings → Option Bounds → Request → Request
asked (settings.Sample x y z) whole request = spread_request (sample_rate x y z) request
asked (settings.Smooth radius) whole request = grown_request (mean_radius radius) whole request
asked settings.Tets whole request = layers_request whole request
asked (settings.Contour count levels) whole request = layers_request whole request
asked (settings.Cut a b c r) whole request = layers_request whole request
asked settings.Boundary whole request = more_ghosts request
asked settings.Merge whole request = all_of whole
asked (settings.File array unit) whole request = all_of whole
asked _ whole request = request

-- ---- what can be asked

-- one ghost level more can be counted
abbrev pub HasRoom : Request → Type 0
HasRoom (Piece p n ghosts) = ghosts + 1 < 2 ^ 32
HasRoom (Block block) = Unit {0}

-- the request is for a block whose points are all sampled from the whole
abbrev pub IsSampled : Rate → Option Bounds → Request → Type 0
IsSampled rate (Some whole) (Block block) = IsPart whole (spread rate block)
IsSampled rate None (Piece p n ghosts) = p < n
IsSampled rate _ _ = ⊥

-- the inputs, which have this extent, have what a node asks them for
abbrev pub CanAsk : Settings → Option Bounds → Request → Type 0
CanAsk (settings.Sample x y z) whole request = IsSampled (sample_rate x y z) whole request
CanAsk settings.Tets whole request = Fits None request
CanAsk (settings.Contour count levels) whole request = Fits None request
CanAsk (settings.Cut a b c r) whole request = Fits None request
CanAsk settings.Boundary whole request = Fits whole request × HasRoom request
CanAsk settings.Merge whole request = Unit {0}
CanAsk (settings.File array unit) whole request = Unit {0}
CanAsk _ whole request = Fits whole request

-- what fits the dataset that a node makes can be asked of its inputs
abbrev pub FittingCanBeAsked : Type 0
FittingCanBeAsked = (settings : Settings) (whole : Option Bounds) (request : Request)
    → Fits (extent_made settings whole) request → HasRoom request
    → CanAsk settings whole request
