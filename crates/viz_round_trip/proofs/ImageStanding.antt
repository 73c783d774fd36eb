-- The text of an image is a file of it.
use Rattle.std.proofs.Common.{◌≡◌, ℕ, ◌*◌, ◌^◌, ◌<◌, Bool, List, ◌∷◌, length, Some, refl, sym, ap, subst, ◌∙◌, arith}
use Rattle.viz_base.specs.declared.node.Pick.TheVariants.{First}
use Rattle.viz_extent.specs.Extent.{size_x, size_y, size_z, count_of}
use Rattle.viz_dataset.specs.declared.dataset.Dataset.TheVariants.{Image}
use Rattle.viz_dataset.specs.Images.{ImageData, corner, IsImage, IsOrigin}
use Rattle.viz_lex.specs.Reading.{Reading, rest_of}
use Rattle.viz_lex.specs.Rules.{gives}
use Rattle.viz_attr.specs.Grammar.{attributes}
use Rattle.viz_legacy_read.specs.Header.{header}
use Rattle.viz_legacy_read.specs.Header.Heading.{OfImage}
use Rattle.viz_legacy_read.specs.ImageFile.{cells_of, asked, image_of, image_behind}
use Rattle.viz_legacy_read.specs.File.{contents, file}
use Rattle.viz_legacy_read.specs.Reading.{front, Reads}
use Rattle.viz_image_write.specs.ImageText.{image_text}
use Rattle.viz_round_trip.specs.RoundTrip.{from_zero, moved, BeginsAtZero}
use Rattle.viz_round_trip.proofs.StandingLemmas.{Stands, stands-gives, stands-follow}
use Rattle.viz_round_trip.proofs.HeaderStanding.{header_with, stands-header}
use Rattle.viz_round_trip.proofs.AttributeStanding.{parts_text, stands-attributes}
use Rattle.viz_round_trip.proofs.TextLemmas.{values_of, image_parts}
use Rattle.viz_round_trip.proofs.MovedLemmas.{extent_sizes, count_again, moved_same}

-- the numbers are those of the rows
full_rows : (x y z n : ℕ) → n ≡ x * y * z → n ≡ y * z * x
full_rows x y z n e = grind arith

stands-image : (later binary : Bool) (unit : ℕ) (i : ImageData) (old : Reading) → IsImage i → IsOrigin (corner i) → rest_of old ≡ image_text later binary i → (left : List ℕ) × Stands (file First unit) old (Image (moved i)) left
stands-image later binary unit i old is origin e =
    let whole = from_zero i.extent in
    let points = count_of whole in
    let n = i.values in
    let same : points ≡ count_of i.extent = count_again i.extent in
    let count : length n.items ≡ points = is.count ∙ sym same in
    let few : points < 2 ^ 31 = omega (arith, is.extent.count) in
    let full = full_rows (size_x i.extent) (size_y i.extent) (size_z i.extent) (length n.items) is.count in
    let h = header_with binary whole (corner i) i.spacing in
    let tail = parts_text n (count_of i.extent) (values_of binary i) in
    let a = stands-header later binary old (size_x i.extent) (size_y i.extent) (size_z i.extent) (corner i) i.spacing tail (extent_sizes i.extent is.extent) origin is.spacing (e ∙ image_parts later binary i) in
    let here : rest_of a.new ≡ 10 ∷ parts_text n points (values_of binary i) = a.rest ∙ ap (λ (k : ℕ). 10 ∷ parts_text n k (values_of binary i)) (sym same) in
    let b = stands-attributes binary points (cells_of whole) n (size_y i.extent * size_z i.extent) (size_x i.extent) a.new few is.range count full here in
    let c = stands-follow (attributes (asked h First)) (λ column. gives (image_of h column)) a.new (Some n) (moved i) b.0 b.0 b.1 (stands-gives (moved i) b.1.new b.0 b.1.rest) in (
      b.0,
      stands-follow header (contents First unit) old (OfImage h) (Image (moved i)) (10 ∷ tail) b.0 a
          (stands-follow (image_behind First h) (λ image. gives (Image image)) a.new (moved i) (Image (moved i)) b.0 b.0 c (stands-gives (Image (moved i)) c.new b.0 c.rest)),
    )

-- the image is read again, counted from index 0
pub reads-moved : (later binary : Bool) (unit : ℕ) (i : ImageData) → IsImage i → IsOrigin (corner i) → Reads (image_text later binary i) First unit (Image (moved i))
reads-moved later binary unit i is origin =
    let all = stands-image later binary unit i (front (image_text later binary i)) is origin refl in
    (all.1.new, all.1.is)

-- and as it was, where its extent begins at 0
pub reads-same : (later binary : Bool) (unit : ℕ) (i : ImageData) → IsImage i → BeginsAtZero i.extent → Reads (image_text later binary i) First unit (Image i)
reads-same later binary unit i is zero =
    let same = moved_same i zero in
    let origin : IsOrigin (corner i) = subst IsOrigin (sym (ap (λ (j : ImageData). j.origin) same)) is.origin in
    subst (λ (j : ImageData). Reads (image_text later binary i) First unit (Image j)) same (reads-moved later binary unit i is origin)
