-- Of true blocks of the images that feed a node, a block of the image that it makes (VTK User's
-- Guide, the executive and "Streaming").
use Rattle.std.specs.Prelude.{◌≡◌, ℕ, List, Option, None, Some}
use Rattle.viz_dataset.specs.Images.{ImageData}
use Rattle.viz_dataset.specs.declared.dataset.Dataset.{Dataset}
use Rattle.viz_dataset.specs.declared.dataset.Dataset.TheVariants as dataset
use Rattle.viz_extent.specs.Extent.{Bounds}
use Rattle.viz_extent.specs.Parts.{IsPart}
use Rattle.viz_kinds.specs.declared.settings.Op.{Op}
use Rattle.viz_kinds.specs.declared.settings.Settings.{Settings}
use Rattle.viz_kinds.specs.declared.settings.Settings.TheVariants as settings
use Rattle.viz_meaning.specs.ImageFilters.{
  arith_of,
  crop_of,
  sample_of,
  smooth_within,
  threshold_of,
}
use Rattle.viz_meaning.specs.WholeImages.{GivesOn, GivesOnBoth, WholeImage}
use Rattle.viz_node_division.specs.Divided.{Divided, IsMadeOf}
use Rattle.viz_node_meaning.specs.Data.{op_with, radius_with}
use Rattle.viz_node_meaning.specs.Information.{box_with, fed_at, rate_with}
use Rattle.viz_node_meaning.specs.Rules.{Inputs}
use Rattle.viz_parts.specs.declared.request.Part.TheVariants.{Image}
use Rattle.viz_parts.specs.declared.request.Request.TheVariants.{Block}
use Rattle.viz_node_answers.specs.Answers.{IsMadeFrom, IsPartFor}

-- the dataset is an image, and the block lies in it
abbrev pub LiesInImage : Bounds → Dataset → Type 0
LiesInImage block (dataset.Image image) = IsPart image.extent block
LiesInImage block (dataset.Mesh sheets) = ⊥

-- ---- filters of one image

-- the filter of a node's parameters, where an image of this extent feeds the first port
abbrev pub image_filter_of : Settings → Bounds → Option (WholeImage → WholeImage)
image_filter_of (settings.Crop x0 x1 y0 y1 z0 z1) extent =
    Some (crop_of (box_with x0 x1 y0 y1 z0 z1))
image_filter_of (settings.Sample x y z) extent = Some (sample_of (rate_with x y z))
image_filter_of (settings.Threshold lo hi) extent = Some (threshold_of lo hi)
image_filter_of (settings.Smooth radius) extent = Some (smooth_within (radius_with radius) extent)
image_filter_of _ extent = None

-- of any block of the image, of which the filter gives the block that is wanted
abbrev pub BlockAnswers : Type 0
BlockAnswers =
    (s : Settings) (filter : WholeImage → WholeImage) (whole : ImageData)
    (first made : Divided)
    → image_filter_of s whole.extent ≡ Some filter → first.whole ≡ dataset.Image whole
    → IsMadeFrom s first made
    → (asked out : Bounds) (input image : ImageData) → LiesInImage out made.whole
    → GivesOn filter input out image
    → IsPartFor first (Block asked) (Image input) → IsPartFor made (Block out) (Image image)

-- ---- arithmetic of two images

-- a node with these parameters makes this of what feeds its first two ports
pub record IsMadeFromBoth (s : Settings) (first second made : Divided) : Type 0 where
  pub file : Option (List ℕ)
  pub inputs : Inputs Divided
  pub fed_first : fed_at 1 inputs ≡ Some first
  pub fed_second : fed_at 2 inputs ≡ Some second
  pub made_of : IsMadeOf s file inputs made

-- of any blocks of both images
abbrev pub ArithAnswers : Type 0
ArithAnswers =
    (op : Op) (a b : ImageData) (first second made : Divided)
    → first.whole ≡ dataset.Image a → second.whole ≡ dataset.Image b
    → IsMadeFromBoth (settings.Arith op) first second made
    → (asked also out : Bounds) (input other image : ImageData) → LiesInImage out made.whole
    → GivesOnBoth (arith_of (op_with op)) input other out image
    → IsPartFor first (Block asked) (Image input) → IsPartFor second (Block also) (Image other)
    → IsPartFor made (Block out) (Image image)
