-- Images and the whole images that they are parts of (VTK User's Guide, "Image data").
use Rattle.std.specs.Prelude.{◌≡◌, ℤ}
use Rattle.viz_extent.specs.Extent.{Bounds}
use Rattle.viz_extent.specs.Parts.{IsPart, Rate, IsRate, sampled, spread}
use Rattle.viz_dataset.specs.Images.{ImageData, IsImage}
use Rattle.viz_meaning.specs.ImageFilters.{threshold_of}
use Rattle.viz_meaning.specs.Threshold.{thresholded}
use Rattle.viz_meaning.specs.WholeImages.{WholeImage, whole_of, IsOn, GivesOn}

-- an image is the part of a whole image on its own extent: of itself
abbrev pub ImagesAreWholes : Type 0
ImagesAreWholes = (image : ImageData) → IsImage image → IsOn (whole_of image) image.extent image

-- two images of one whole on one part are the same
abbrev pub PartIsDetermined : Type 0
PartIsDetermined =
    (whole : WholeImage) (part : Bounds) (a b : ImageData) → IsOn whole part a → IsOn whole part b
    → a ≡ b

-- a threshold on the whole extent of its input has each number of the input, kept or 0
abbrev pub WholeThreshold : Type 0
WholeThreshold =
    (lo hi : ℤ) (input output : ImageData) → IsImage input
    → GivesOn (threshold_of lo hi) input input.extent output → output ≡ thresholded lo hi input

-- what a part of a sample asks for lies in the whole
abbrev pub SamplesAskWithin : Type 0
SamplesAskWithin =
    (rate : Rate) (whole out : Bounds) → IsRate rate → IsPart (sampled rate whole) out
    → IsPart whole (spread rate out)
