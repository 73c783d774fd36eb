-- The parts of an image, one after the other.
use Rattle.std.specs.Prelude.{◌≡◌, ℕ, ℤ, List, [], slice_index_or}
use Rattle.viz_dataset.specs.Images.{ImageData}
use Rattle.viz_extent.specs.Extent.{Bounds}
use Rattle.viz_column.specs.declared.kind.Kind8.{Kind8}
use Rattle.viz_parts.specs.declared.request.Part.{Part}
use Rattle.viz_parts.specs.declared.request.Part.TheVariants.{Image, Mesh}

-- a part of an image
abbrev pub IsPicture : Part → Type 0
IsPicture (Image image) = Unit {0}
IsPicture (Mesh parts) = ⊥

-- an image of numbers of this kind
abbrev pub HasKind : Kind8 → Part → Type 0
HasKind kind (Image image) = image.values.kind ≡ kind
HasKind kind (Mesh parts) = ⊥

-- the numbers of an image
abbrev pub values_in : Part → List ℤ
values_in (Image image) = image.values.items
values_in (Mesh parts) = []

-- the image that a part is
abbrev pub IsImageOf : Part → ImageData → Type 0
IsImageOf part image = part ≡ Image image

-- the image that stands at an index
abbrev pub IsImageAt : List Part → ℕ → ImageData → Type 0
IsImageAt parts k image = slice_index_or parts k (Image image) ≡ Image image

-- the extent from the lowest plane of one to the highest of another
abbrev pub spanned : Bounds → Bounds → Bounds
spanned first last = record first { z1 = last.z1 }
