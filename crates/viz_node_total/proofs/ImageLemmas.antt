-- The image on the extent of a whole image, with a number of its type for each point.
use Rattle.std.proofs.Common.{
  ◌≡◌,
  ℕ,
  suc,
  ◌<◌,
  ℤ,
  pos,
  Bool,
  true,
  List,
  [],
  ◌∷◌,
  length,
  get_or,
  refl,
  sym,
  ap,
  subst,
  ◌∙◌,
  arith,
}
use Rattle.std.specs.List.{list_all}
use Rattle.viz_column.specs.Kinds.{fits}
use Rattle.viz_dataset.specs.Images.{ImageData, IsImage, IsOrigin, IsSpacing, number_at}
use Rattle.viz_extent.specs.Extent.{Has, IsExtent}
use Rattle.viz_extent.specs.Numbering.{index_at}
use Rattle.viz_extent.proofs.NumberingLemmas.{index_at_below}
use Rattle.viz_image_ops.specs.Joined.{values_on}
use Rattle.viz_image_ops.proofs.JoinedLemmas.{get_or-values_on, length-values_on}
use Rattle.viz_image_ops.proofs.KeptLemmas.{passes_at}
use Rattle.viz_image_ops.proofs.PartLemmas.{point_of}
use Rattle.viz_meaning.specs.WholeImages.{IsOn, WholeImage}

-- a whole image that has an image: its extent is one, it has a place, and its numbers their type
pub record OwnsImage (w : WholeImage) : Type 0 where
  pub extent : IsExtent w.extent
  pub origin : IsOrigin w.origin
  pub spacing : IsSpacing w.spacing
  pub numbers : (i j k : ℕ) → Has w.extent i j k → fits w.kind (w.number i j k) ≡ true

-- the image on its extent
abbrev pub own_image : WholeImage → ImageData
own_image w = record {
  extent = w.extent;
  origin = w.origin;
  spacing = w.spacing;
  values = record { kind = w.kind; items = values_on w.number w.extent };
}

-- what each number of a list passes, all do
all_pass : (p : ℤ → Bool) (xs : List ℤ)
    → ((i : ℕ) → i < length xs → p (get_or xs i (pos 0)) ≡ true) → list_all p xs ≡ true
all_pass p [] each = refl
all_pass p (x ∷ xs) each =
    let first : p x ≡ true = each 0 (omega arith) in
    rw (first, all_pass p xs (λ i below. each (suc i) (omega arith))) refl

-- the numbers at all points have their type
values_fit : (w : WholeImage) → OwnsImage w
    → list_all (fits w.kind) (values_on w.number w.extent) ≡ true
values_fit w owns =
    let items = values_on w.number w.extent in
    all_pass (fits w.kind) items (λ p below.
    let less = subst (λ (n : ℕ). p < n) (length-values_on w.number w.extent) below in
    let at = point_of w.extent p owns.extent less in
    let is : get_or items p (pos 0) ≡ w.number at.i at.j at.k =
    ap (λ (n : ℕ). get_or items n (pos 0)) (sym at.number)
    ∙ get_or-values_on w.number w.extent at.i at.j at.k (pos 0) at.has in
    ap (fits w.kind) is ∙ owns.numbers at.i at.j at.k at.has)

-- it is the whole image on all of its extent
pub own_image-on : (w : WholeImage) → OwnsImage w → IsOn w w.extent (own_image w)
own_image-on w owns = record {
  extent = refl;
  origin = refl;
  spacing = refl;
  kind = refl;
  numbers = λ i j k has. get_or-values_on w.number w.extent i j k (pos 0) has;
  valid = record {
    extent = owns.extent;
    range = values_fit w owns;
    count = length-values_on w.number w.extent;
    origin = owns.origin;
    spacing = owns.spacing;
  };
}

-- each number of an image has its type
pub number_fits : (image : ImageData) (i j k : ℕ) → IsImage image → Has image.extent i j k
    → fits image.values.kind (number_at image i j k) ≡ true
number_fits image i j k valid has =
    let index = index_at image.extent i j k in
    passes_at (fits image.values.kind) image.values.items index valid.range
    (subst (λ (n : ℕ). index < n) (sym valid.count) (index_at_below image.extent i j k has))
