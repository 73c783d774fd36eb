-- A whole image as a function of the indices, and the images on parts of it (VTK User's Guide, the
-- executive and "Image data").
use Rattle.std.specs.Prelude.{◌≡◌, ℕ, ℤ}
use Rattle.viz_column.specs.declared.kind.Kind8.{Kind8}
use Rattle.viz_extent.specs.Extent.{Bounds, Has}
use Rattle.viz_dataset.specs.Images.{Vector, ImageData, IsImage, number_at}

-- the whole extent, the place, the type of the numbers and the number at each index
pub record WholeImage : Type 0 where
  pub extent : Bounds
  pub origin : Vector
  pub spacing : Vector
  pub kind : Kind8
  pub number : ℕ → ℕ → ℕ → ℤ

-- an image by itself, as a whole one
abbrev pub whole_of : ImageData → WholeImage
whole_of image = record {
  extent = image.extent;
  origin = image.origin;
  spacing = image.spacing;
  kind = image.values.kind;
  number = number_at image;
}

-- the image is that of the whole one on a part: the same place, type and number for each point of
-- the part
pub record IsOn (whole : WholeImage) (part : Bounds) (image : ImageData) : Type 0 where
  pub extent : image.extent ≡ part
  pub origin : image.origin ≡ whole.origin
  pub spacing : image.spacing ≡ whole.spacing
  pub kind : image.values.kind ≡ whole.kind
  pub numbers : (i j k : ℕ) → Has part i j k → number_at image i j k ≡ whole.number i j k
  pub valid : IsImage image

-- of whatever whole image the input is a part, the output is the part of what the filter makes of
-- it
abbrev pub GivesOn : (WholeImage → WholeImage) → ImageData → Bounds → ImageData → Type 0
GivesOn filter input part output =
    (whole : WholeImage) → IsOn whole input.extent input → IsOn (filter whole) part output

-- the same of a filter of two images
abbrev pub GivesOnBoth : (WholeImage → WholeImage → WholeImage) → ImageData → ImageData → Bounds
    → ImageData → Type 0
GivesOnBoth filter first second part output =
    (a b : WholeImage) → IsOn a first.extent first → IsOn b second.extent second
    → IsOn (filter a b) part output
