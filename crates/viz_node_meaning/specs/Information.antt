-- What is known of a node's dataset before its numbers are (VTK User's Guide, "The visualization
-- pipeline": the information pass; docs/FORMATS-OF-FILTERS.md, "What a node gives").
use Rattle.std.specs.Prelude.{◌≡◌, ℕ, suc, ◌-◌, ◌^◌, Bool, true, false, ◌&&◌, nat_le, nat_eq}
use Rattle.std.specs.Prelude.{int_le, ℤ, pos, ◌*ℤ◌, if◌then◌else◌, min, max, List, [], ◌∷◌}
use Rattle.std.specs.Prelude.{slice_index_or, Option, None, Some, Result, Ok, Err}
use Rattle.std.specs.Int.{w128, saturate_signed}
use Rattle.std.specs.List.{list_any}
use Rattle.std.specs.Ordering.{int_eq}
use Rattle.viz_lex.specs.declared.fault.FileFault.{FileFault}
use Rattle.viz_extent.specs.Extent.{Bounds}
use Rattle.viz_extent.specs.Parts.{Rate, common, sampled}
use Rattle.viz_dataset.specs.Images.{Vector, vector_of}
use Rattle.viz_dataset.specs.declared.dataset.Info.{Info}
use Rattle.viz_dataset.specs.declared.dataset.Info.TheVariants as info
use Rattle.viz_dataset.specs.declared.dataset.Dataset.{Dataset}
use Rattle.viz_dataset.specs.declared.dataset.Dataset.TheVariants as dataset
use Rattle.viz_legacy_read.specs.Reading.{IsMeshFile, StopsInHeader, ReadsHeader}
use Rattle.viz_legacy_read.specs.Header.{Header}
use Rattle.viz_legacy_read.specs.Header.Heading.{OfImage as ImageHead}
use Rattle.viz_kinds.specs.declared.settings.Settings.{Settings}
use Rattle.viz_kinds.specs.declared.settings.Settings.TheVariants as settings
use Rattle.viz_network.specs.declared.fault.Cause.{Cause}
use Rattle.viz_network.specs.declared.fault.Cause.TheVariants.{Unconnected, WrongInput, NoFile}
use Rattle.viz_network.specs.declared.fault.Cause.TheVariants.{BadFile, EmptyExtent, GridsDiffer}
use Rattle.viz_network.specs.declared.fault.Cause.TheVariants.{TooWide}
use Rattle.viz_node_meaning.specs.declared.information.Lengths.{Lengths}
use Rattle.viz_node_meaning.specs.declared.information.Grid.{Grid}
use Rattle.viz_node_meaning.specs.declared.information.Information.{Information}
use Rattle.viz_node_meaning.specs.declared.information.Information.TheVariants.{OfImage, OfMesh}
use Rattle.viz_node_meaning.specs.Rules.{Inputs, NodeRule}

-- three lengths, as a vector has them
abbrev pub lengths_of : Vector → Lengths
lengths_of v = record { x = v.x; y = v.y; z = v.z }

-- the grid of an extent, the position of index 0 and the steps between points
abbrev pub grid_of : Bounds → Vector → Vector → Grid
grid_of extent origin spacing =
    record { extent = extent; origin = lengths_of origin; spacing = lengths_of spacing }

-- the information of a dataset
abbrev pub information_of : Dataset → Information
information_of (dataset.Image i) = OfImage (grid_of i.extent i.origin i.spacing)
information_of (dataset.Mesh sheets) = OfMesh

-- the information that the header of a file gives
abbrev pub information_in : Info → Information
information_in (info.Image whole origin spacing) = OfImage
    (grid_of whole (vector_of origin) (vector_of spacing))
information_in info.Mesh = OfMesh

-- ---- what a port takes

-- what f makes, unless there is a cause before it
abbrev pub and_then : {X Y : Type 0} → Result X Cause → (X → Result Y Cause) → Result Y Cause
and_then (Ok x) f = f x
and_then (Err cause) f = Err cause

-- what feeds a port, which are numbered from 1
abbrev pub fed_at : {X : Type 0} → ℕ → Inputs X → Option X
fed_at port inputs = slice_index_or inputs (port - 1) None

-- the grid at a port that takes images
abbrev pub grid_in : ℕ → Option Information → Result Grid Cause
grid_in port None = Err (Unconnected port)
grid_in port (Some (OfImage g)) = Ok g
grid_in port (Some OfMesh) = Err (WrongInput port)

-- the information at a port that takes images and meshes
abbrev pub either_in : ℕ → Option Information → Result Information Cause
either_in port None = Err (Unconnected port)
either_in port (Some i) = Ok i

-- that of a port that takes meshes
abbrev pub mesh_in : ℕ → Option Information → Result Information Cause
mesh_in port None = Err (Unconnected port)
mesh_in port (Some (OfImage g)) = Err (WrongInput port)
mesh_in port (Some OfMesh) = Ok OfMesh

abbrev pub grid_at : ℕ → Inputs Information → Result Grid Cause
grid_at port inputs = grid_in port (fed_at port inputs)

abbrev pub either_at : ℕ → Inputs Information → Result Information Cause
either_at port inputs = either_in port (fed_at port inputs)

abbrev pub mesh_at : ℕ → Inputs Information → Result Information Cause
mesh_at port inputs = mesh_in port (fed_at port inputs)

-- whether an image feeds a port
abbrev pub is_image : Option Information → Bool
is_image (Some (OfImage g)) = true
is_image (Some OfMesh) = false
is_image None = false

-- whether something feeds a port
abbrev pub is_fed : {X : Type 0} → Option X → Bool
is_fed (Some x) = true
is_fed None = false

-- a mesh, unless an image feeds a port: the lowest one, where the first of these has this number
abbrev pub meshes_from : ℕ → Inputs Information → Result Information Cause
meshes_from port [] = Ok OfMesh
meshes_from port (i ∷ inputs) = if is_image i then Err (WrongInput port)
    else meshes_from (suc port) inputs

-- the information at ports that take meshes, of which one at least is fed; where none is, port 1
-- is the one that is missed
abbrev pub meshes_at : Inputs Information → Result Information Cause
meshes_at inputs = if list_any is_fed inputs then meshes_from 1 inputs else Err (Unconnected 1)

-- ---- parameters

-- a number of a parameter, or the nearer end of the parameter's range, which no number of a
-- history leaves
abbrev pub within : ℕ → ℕ → ℕ → ℕ
within least most n = max least (min most n)

-- the rate of a sample
abbrev pub rate_with : ℕ → ℕ → ℕ → Rate
rate_with x y z = record { x = within 1 1024 x; y = within 1 1024 y; z = within 1 1024 z }

-- the box of a crop
abbrev pub box_with : ℕ → ℕ → ℕ → ℕ → ℕ → ℕ → Bounds
box_with x0 x1 y0 y1 z0 z1 = record { x0 = x0; x1 = x1; y0 = y0; y1 = y1; z0 = z0; z1 = z1 }

-- ---- what a node makes of the information at its ports

-- whether the bounds have a point between them
abbrev pub has_points : Bounds → Bool
has_points b = nat_le b.x0 b.x1 && nat_le b.y0 b.y1 && nat_le b.z0 b.z1

-- the grid, where a point is left
abbrev pub with_points : Grid → Result Grid Cause
with_points g = if has_points g.extent then Ok g else Err EmptyExtent

-- whether all three steps are at most 10^9 units
abbrev pub is_short : Lengths → Bool
is_short v = int_le v.x (pos (10 ^ 18)) && int_le v.y (pos (10 ^ 18)) && int_le v.z (pos (10 ^ 18))

-- the grid, where its steps aren't too wide
abbrev pub with_steps : Grid → Result Grid Cause
with_steps g = if is_short g.spacing then Ok g else Err TooWide

-- the grid of a crop
abbrev pub cropped : Bounds → Grid → Result Grid Cause
cropped box g = with_points
    (record { extent = common g.extent box; origin = g.origin; spacing = g.spacing })

-- a step that is longer by a rate, in 128 bits, in which the steps of files have room
abbrev pub longer_step : ℤ → ℕ → ℤ
longer_step step rate = saturate_signed w128 (step *ℤ pos rate)

-- steps that are longer by a rate along each axis
abbrev pub longer : Rate → Lengths → Lengths
longer rate v =
    record { x = longer_step v.x rate.x; y = longer_step v.y rate.y; z = longer_step v.z rate.z }

-- the grid of a sample
abbrev pub thinned : Rate → Grid → Result Grid Cause
thinned rate g = and_then
    (with_points (record {
      extent = sampled rate g.extent;
      origin = g.origin;
      spacing = longer rate g.spacing;
    })) with_steps

-- whether three lengths are the same
abbrev pub same_lengths : Lengths → Lengths → Bool
same_lengths v w = int_eq v.x w.x && int_eq v.y w.y && int_eq v.z w.z

-- whether two extents are the same
abbrev pub same_extent : Bounds → Bounds → Bool
same_extent a b = nat_eq a.x0 b.x0 && nat_eq a.x1 b.x1 && nat_eq a.y0 b.y0 && nat_eq a.y1 b.y1
    && nat_eq a.z0 b.z0 && nat_eq a.z1 b.z1

-- whether two grids are the same
abbrev pub same_grid : Grid → Grid → Bool
same_grid g h = same_extent g.extent h.extent && same_lengths g.origin h.origin
    && same_lengths g.spacing h.spacing

-- the grid that two images have in common
abbrev pub shared_grid : Grid → Grid → Result Grid Cause
shared_grid g h = if same_grid g h then Ok g else Err GridsDiffer

-- an image on the grid
abbrev pub as_image : Result Grid Cause → Result Information Cause
as_image grid = and_then grid (λ g. Ok (OfImage g))

-- what a filter makes of the information at its ports, or its first fault: the lowest port that is
-- empty or fed with what it doesn't take, then what is left of the image
abbrev pub filter_information : Settings → Inputs Information → Result Information Cause
filter_information (settings.Crop x0 x1 y0 y1 z0 z1) inputs = as_image
    (and_then (grid_at 1 inputs) (cropped (box_with x0 x1 y0 y1 z0 z1)))
filter_information (settings.Sample x y z) inputs = as_image
    (and_then (grid_at 1 inputs) (thinned (rate_with x y z)))
filter_information (settings.Threshold lo hi) inputs = as_image (grid_at 1 inputs)
filter_information (settings.Smooth radius) inputs = as_image (grid_at 1 inputs)
filter_information (settings.Arith op) inputs = as_image
    (and_then (grid_at 1 inputs) (λ g. and_then (grid_at 2 inputs) (shared_grid g)))
filter_information settings.Tets inputs = and_then (grid_at 1 inputs) (λ g. Ok OfMesh)
filter_information (settings.Select lo hi all) inputs = mesh_at 1 inputs
filter_information (settings.Contour count levels) inputs = and_then (either_at 1 inputs)
    (λ i. Ok OfMesh)
filter_information (settings.Cut a b c r) inputs = and_then (either_at 1 inputs) (λ i. Ok OfMesh)
filter_information settings.Append inputs = meshes_at inputs
filter_information settings.Boundary inputs = mesh_at 1 inputs
filter_information settings.Merge inputs = mesh_at 1 inputs
filter_information (settings.Writer binary digits version) inputs = either_at 1 inputs
filter_information (settings.File array unit) inputs = Err (Unconnected 1)

-- what the header of a loaded file gives, or its fault
abbrev pub IsHeaderOf : Option (List ℕ) → Result Information Cause → Type 0
IsHeaderOf None r = r ≡ Err NoFile
IsHeaderOf (Some bytes) (Ok (OfImage g)) = (h : Header) × ReadsHeader bytes (ImageHead h)
    × (g ≡ grid_of h.whole h.origin h.spacing)
IsHeaderOf (Some bytes) (Ok OfMesh) = IsMeshFile bytes
IsHeaderOf (Some bytes) (Err cause) = (fault : FileFault) × StopsInHeader bytes fault
    × (cause ≡ BadFile fault)

-- what a node with these parameters and this file makes of the information at its ports
abbrev pub IsInformed : Settings → Option (List ℕ) → Inputs Information → Result Information Cause
    → Type 0
IsInformed (settings.File array unit) file inputs r = IsHeaderOf file r
IsInformed settings file inputs r = r ≡ filter_information settings inputs

-- the information rule of a node
abbrev pub InformationRule : NodeRule Information
InformationRule n inputs r = IsInformed n.settings n.file inputs r
