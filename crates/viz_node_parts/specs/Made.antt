-- What a node makes for a request of the parts at its ports, kind by kind (VTK User's Guide, the
-- executive: the data pass, and "Streaming").
use Rattle.std.specs.Prelude.{◌≡◌, ℕ, List, [], ◌∷◌, Option, None, Some, Ok, Err}
use Rattle.viz_base.specs.declared.node.Pick.{Pick}
use Rattle.viz_dataset.specs.declared.dataset.Dataset.{Dataset}
use Rattle.viz_extent.specs.Extent.{Bounds}
use Rattle.viz_fraction.specs.declared.forms.Form.{Form}
use Rattle.viz_kept.specs.Whole.{IsWholePart, whole_request}
use Rattle.viz_kinds.specs.declared.settings.Settings.{Settings}
use Rattle.viz_kinds.specs.declared.settings.Settings.TheVariants as settings
use Rattle.viz_meaning.specs.ImageFilters.{
  arith_of,
  crop_of,
  sample_of,
  smooth_within,
  threshold_of,
}
use Rattle.viz_meaning.specs.Narrow.{AreNarrowSections}
use Rattle.viz_meaning.specs.Tetrahedra.{tetrahedra_sheet}
use Rattle.viz_meaning.specs.WholeImages.{GivesOn, GivesOnBoth, WholeImage}
use Rattle.viz_network.specs.declared.fault.Cause.{Cause}
use Rattle.viz_network.specs.declared.fault.Cause.TheVariants.{TooWide}
use Rattle.viz_node_meaning.specs.Data.{
  IsReadingOf,
  contour_forms,
  cut_forms,
  op_with,
  radius_with,
  unit_with,
}
use Rattle.viz_node_meaning.specs.Information.{box_with, fed_at, rate_with}
use Rattle.viz_node_meaning.specs.Rules.{Inputs}
use Rattle.viz_node_rules.specs.declared.stop.OwnStop.{OwnStop}
use Rattle.viz_node_rules.specs.declared.stop.OwnStop.TheVariants.{Cause as Caused, Memory}
use Rattle.viz_parts.specs.declared.request.Part.{Part}
use Rattle.viz_parts.specs.declared.request.Part.TheVariants.{Image, Mesh}
use Rattle.viz_parts.specs.declared.request.Request.{Request}
use Rattle.viz_parts.specs.declared.request.Request.TheVariants.{Block, Piece}
use Rattle.viz_piece_divisions.specs.Answers.{
  IsAppendedAnswer,
  IsBoundaryAnswer,
  IsMergedAnswer,
  IsNarrowPart,
  IsSectionAnswer,
  IsSelectedAnswer,
}
use Rattle.viz_piece_section.specs.Sections.{AnswersSections}
use Rattle.viz_piece_tets.specs.Tets.{AnswersTets}
use Rattle.viz_node_parts.specs.Taken.{parts_fed}

-- ---- files

-- all of what a file is read as, where 10^unit of its coordinates make 1
pub record IsFilePart (array : Pick) (unit : ℕ) (file : Option (List ℕ)) (part : Part)
    : Type 0 where
  pub whole : Dataset
  pub read : IsReadingOf array unit file (Ok whole)
  pub part_is : IsWholePart whole (whole_request whole) part

-- ---- blocks of images

-- what a filter of images makes on the block that is asked for
abbrev pub MakesImage : (WholeImage → WholeImage) → Request → Option Part → Part → Type 0
MakesImage filter (Block out) (Some (Image input)) (Image made) = GivesOn filter input out made
MakesImage filter _ _ _ = ⊥

-- the same of a filter of two images
abbrev pub MakesOfBoth :
    (WholeImage → WholeImage → WholeImage) → Request → Option Part → Option Part → Part → Type 0
MakesOfBoth filter (Block out) (Some (Image first)) (Some (Image second)) (Image made) =
    GivesOnBoth filter first second out made
MakesOfBoth filter _ _ _ _ = ⊥

-- a box mean within the whole
abbrev pub MakesMean : ℕ → Option Bounds → Request → Option Part → Part → Type 0
MakesMean radius None request input part = ⊥
MakesMean radius (Some whole) request input part =
    MakesImage (smooth_within radius whole) request input part

-- ---- pieces

-- the tetrahedra of a piece of the whole
abbrev pub MakesTets : Option Bounds → Request → Option Part → Part → Type 0
MakesTets (Some whole) (Piece p n ghosts) (Some (Image slab)) part =
    AnswersTets p n ghosts whole slab part
MakesTets _ _ _ _ = ⊥

-- the sections of a piece of the whole, or of a part of a mesh
abbrev pub MakesSections : List Form → Option Bounds → Request → Option Part → Part → Type 0
MakesSections forms (Some whole) (Piece p n ghosts) (Some (Image slab)) part =
    AnswersSections forms p n ghosts whole slab part
MakesSections forms None request (Some input) part = IsSectionAnswer forms input part
MakesSections forms _ _ _ _ = ⊥

-- no number of a section of the part at a port is wide; an image is cut through its tetrahedra
abbrev pub IsNarrowInput : List Form → Option Part → Type 0
IsNarrowInput forms (Some (Image slab)) = AreNarrowSections forms (tetrahedra_sheet slab ∷ [])
IsNarrowInput forms (Some (Mesh parts)) = IsNarrowPart forms (Mesh parts)
IsNarrowInput forms None = ⊥

-- sections that are narrow
abbrev pub MakesNarrow : List Form → Option Bounds → Request → Option Part → Part → Type 0
MakesNarrow forms whole request input part =
    MakesSections forms whole request input part × IsNarrowInput forms input

-- what is made of the part at a port
abbrev pub MakesOf : (Part → Part → Type 0) → Option Part → Part → Type 0
MakesOf Answers (Some input) part = Answers input part
MakesOf Answers None part = ⊥

-- the boundary for a piece with so many ghost levels
abbrev pub MakesBoundary : Request → Option Part → Part → Type 0
MakesBoundary (Piece p n ghosts) input part = MakesOf (IsBoundaryAnswer ghosts) input part
MakesBoundary (Block out) input part = ⊥

-- ---- all kinds

-- the part that a node with these parameters and this file makes for a request of the parts at its
-- ports, where the image at its ports has this extent
abbrev pub MakesPart : Settings → Option (List ℕ) → Option Bounds → Request → Inputs Part → Part
    → Type 0
MakesPart (settings.File array unit) file whole request inputs part =
    IsFilePart array (unit_with unit) file part
MakesPart (settings.Crop x0 x1 y0 y1 z0 z1) file whole request inputs part =
    MakesImage (crop_of (box_with x0 x1 y0 y1 z0 z1)) request (fed_at 1 inputs) part
MakesPart (settings.Sample x y z) file whole request inputs part =
    MakesImage (sample_of (rate_with x y z)) request (fed_at 1 inputs) part
MakesPart (settings.Threshold lo hi) file whole request inputs part =
    MakesImage (threshold_of lo hi) request (fed_at 1 inputs) part
MakesPart (settings.Smooth radius) file whole request inputs part =
    MakesMean (radius_with radius) whole request (fed_at 1 inputs) part
MakesPart (settings.Arith op) file whole request inputs part =
    MakesOfBoth (arith_of (op_with op)) request (fed_at 1 inputs) (fed_at 2 inputs) part
MakesPart settings.Tets file whole request inputs part =
    MakesTets whole request (fed_at 1 inputs) part
MakesPart (settings.Select lo hi all) file whole request inputs part =
    MakesOf (IsSelectedAnswer all lo hi) (fed_at 1 inputs) part
MakesPart (settings.Contour count levels) file whole request inputs part =
    MakesNarrow (contour_forms count levels) whole request (fed_at 1 inputs) part
MakesPart (settings.Cut a b c r) file whole request inputs part =
    MakesNarrow (cut_forms a b c r) whole request (fed_at 1 inputs) part
MakesPart settings.Append file whole request inputs part =
    IsAppendedAnswer (parts_fed inputs) part
MakesPart settings.Boundary file whole request inputs part =
    MakesBoundary request (fed_at 1 inputs) part
MakesPart settings.Merge file whole request inputs part =
    MakesOf IsMergedAnswer (fed_at 1 inputs) part
MakesPart (settings.Writer binary digits version) file whole request inputs part = ⊥

-- ---- causes

-- a section of the part at a port is wide
abbrev pub IsWide : List Form → Option Part → Cause → Type 0
IsWide forms input cause = (IsNarrowInput forms input → ⊥) × (cause ≡ TooWide)

-- why a node makes no part: its file's fault, or a wide section; no other kind has a cause
abbrev pub HasCause : Settings → Option (List ℕ) → Inputs Part → Cause → Type 0
HasCause (settings.File array unit) file inputs cause =
    IsReadingOf array (unit_with unit) file (Err cause)
HasCause (settings.Contour count levels) file inputs cause =
    IsWide (contour_forms count levels) (fed_at 1 inputs) cause
HasCause (settings.Cut a b c r) file inputs cause =
    IsWide (cut_forms a b c r) (fed_at 1 inputs) cause
HasCause _ file inputs cause = ⊥

-- it stops for such a cause, or for want of memory
abbrev pub MayStop : (Cause → Type 0) → OwnStop → Type 0
MayStop Has (Caused cause) = Has cause
MayStop Has Memory = Unit {0}
