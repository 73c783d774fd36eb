-- The image that a file of bytes is read as has numbers of its type for all its points.
use Rattle.std.proofs.Common.{
  ◌≡◌,
  ℕ,
  zero,
  suc,
  true,
  pos,
  List,
  Option,
  None,
  Some,
  replicate,
  refl,
  sym,
  ap,
  subst,
  ◌∙◌,
}
use Rattle.std.specs.List.{list_all}
use Rattle.viz_attr.specs.Grammar.{attributes}
use Rattle.viz_attr.proofs.FirstLaws.{attributes_are_picked}
use Rattle.viz_base.specs.declared.node.Pick.{Pick}
use Rattle.viz_column.specs.Bytes.{AreBytes}
use Rattle.viz_column.specs.Kinds.{fits}
use Rattle.viz_column.specs.Numbers.{AreInRange, Numbers}
use Rattle.viz_column.specs.declared.kind.Kind8.TheVariants.{U8}
use Rattle.viz_dataset.specs.Images.{ImageData, IsImage}
use Rattle.viz_dataset.specs.declared.dataset.Dataset.{Dataset}
use Rattle.viz_dataset.specs.declared.dataset.Dataset.TheVariants.{Image}
use Rattle.viz_extent.specs.Extent.{count_of}
use Rattle.viz_legacy_read.specs.File.{contents}
use Rattle.viz_legacy_read.specs.Header.{Header, Heading, header}
use Rattle.viz_legacy_read.specs.Header.Heading.{OfImage as ImageHead, OfMesh as MeshHead}
use Rattle.viz_legacy_read.specs.ImageFile.{asked, image_of, numbers_or_zeros}
use Rattle.viz_legacy_read.specs.Reading.{Reads, front}
use Rattle.viz_legacy_read.proofs.HeaderLaws.{decides-header}
use Rattle.viz_legacy_read.proofs.ReadLaws.{count_is}
use Rattle.viz_lex.specs.Reading.{Reading}
use Rattle.viz_node_total.specs.Files.{IsValid}
use Rattle.viz_node_total.proofs.ArrayLemmas.{ColumnInRange, attributes_in}
use Rattle.viz_node_total.proofs.HeaderLemmas.{HasLimits, heading_within}
use Rattle.viz_node_total.proofs.StayLemmas.{Small, small_bytes, stays}

zeros_fit : (n : ℕ) → list_all (fits U8) (replicate n (pos 0)) ≡ true
zeros_fit zero = refl
zeros_fit (suc n) = zeros_fit n

range_is : (points : ℕ) (column : Option Numbers) → ColumnInRange column
    → AreInRange (numbers_or_zeros points column)
range_is points None h = zeros_fit points
range_is points (Some n) h = h

-- an image of a header within the limits and of numbers in range is one
image_is : (pick : Pick) (h : Header) (column : Option Numbers) (old new : Reading) → HasLimits h
    → Small old.bytes → (attributes (asked h pick)).is old new column
    → IsImage (image_of h column)
image_is pick h column old new limits small is =
    let points = count_of h.whole in
    let sized = (attributes_are_picked (asked h pick) old new column is).sized in
    record {
      extent = limits.whole;
      range = range_is points column (attributes_in (asked h pick) old new column small is);
      count = count_is points column sized;
      origin = limits.origin;
      spacing = limits.spacing;
    }

contents_valid : (pick : Pick) (unit : ℕ) (bytes : List ℕ) (h : Heading) (mid behind : Reading)
    (d : Dataset) → AreBytes bytes → header.is (front bytes) mid h
    → (contents pick unit h).is mid behind d → IsValid d
contents_valid pick unit bytes (ImageHead h) mid behind d are is c =
    let same = stays decides-header (front bytes) mid (ImageHead h) is in
    let small = subst Small (sym same) (small_bytes bytes are) in
    let image =
    image_is pick h c.2.0 mid c.2.1 (heading_within bytes h (mid, is)) small c.2.2 in
    let made = c.3.1 ∙ ap (λ (i : ImageData). Image i) c.2.3.1 in
    subst IsValid (sym made) image
contents_valid pick unit bytes (MeshHead p) mid behind d are is c = subst IsValid (sym c.3.1) tt

pub file_valid : (pick : Pick) (unit : ℕ) (bytes : List ℕ) (d : Dataset) → AreBytes bytes
    → Reads bytes pick unit d → IsValid d
file_valid pick unit bytes d are h =
    contents_valid pick unit bytes h.1.0 h.1.1 h.0 d are h.1.2 h.1.3
