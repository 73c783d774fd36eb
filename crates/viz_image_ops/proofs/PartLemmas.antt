-- Images on parts of a whole.
use Rattle.std.proofs.Common.{◌≡◌, ℕ, ◌+◌, ◌-◌, ◌/◌, ◌%◌, ◌<◌, ℤ, pos, List, length, map, get_or, refl, sym, ap, ◌∙◌, subst, arith}
use Rattle.std.proofs.lemmas.List.{ext_get_or, get_or-map, length-map}
use Rattle.std.proofs.lemmas.Nat.{mod_below}
use Rattle.viz_column.specs.declared.kind.Kind8.{Kind8}
use Rattle.viz_extent.specs.Extent.{Bounds, size_x, size_y, size_z, count_of, IsExtent, Has}
use Rattle.viz_extent.specs.Numbering.{index_at}
use Rattle.viz_extent.specs.Parts.{IsPart}
use Rattle.viz_extent.proofs.NumberingLemmas.{index_at-by_rows, index_at_below, number-of_parts, plane_below}
use Rattle.viz_extent.proofs.PartLemmas.{points_of_part}
use Rattle.viz_dataset.specs.Images.{Vector, ImageData, IsImage, IsRestricted}
use Rattle.viz_meaning.specs.ImageFilters.{crop_of, threshold_of}
use Rattle.viz_meaning.specs.Threshold.{kept_value, thresholded}
use Rattle.viz_meaning.specs.WholeImages.{WholeImage, whole_of, IsOn, GivesOn}
use Rattle.viz_image_ops.specs.Determined.{ImagesAreWholes, PartIsDetermined, WholeThreshold}

-- an image is that of itself as a whole
pub on_itself : ImagesAreWholes
on_itself image valid =
    record {
      extent = refl;
      origin = refl;
      spacing = refl;
      kind = refl;
      numbers = λ i j k has. refl;
      valid = valid;
    }

-- a part of a part
pub on_part : (w : WholeImage) (input output : ImageData) (part : Bounds) → IsPart input.extent part → IsRestricted input part output
    → IsImage output → IsOn w input.extent input → IsOn w part output
on_part w input output part within restricted valid on =
    record {
      extent = restricted.extent;
      origin = restricted.origin ∙ on.origin;
      spacing = restricted.spacing ∙ on.spacing;
      kind = restricted.kind ∙ on.kind;
      numbers = λ i j k has. restricted.values i j k has ∙ on.numbers i j k (points_of_part input.extent part within i j k has);
      valid = valid;
    }

-- an image is the part on its own extent
pub at_extent : (w : WholeImage) (part : Bounds) (image : ImageData) → IsOn w part image → IsOn w image.extent image
at_extent w part image on = subst (λ (b : Bounds). IsOn w b image) (sym on.extent) on

-- what a filter gives of a part of its input, it gives of the input
pub through_part : (filter : WholeImage → WholeImage) (input part output : ImageData) (own out : Bounds) → IsPart input.extent own
    → IsRestricted input own part → IsImage part → GivesOn filter part out output → GivesOn filter input out output
through_part filter input part output own out within restricted valid gives w on =
    gives w (at_extent w own part (on_part w input part own within restricted valid on))

-- the part that an image is of a whole is the part of its crop
pub cropped : (input output : ImageData) (part : Bounds) → IsPart input.extent part → IsRestricted input part output → IsImage output
    → (box : Bounds) → GivesOn (crop_of box) input part output
cropped input output part within restricted valid box w on =
    let all = on_part w input output part within restricted valid on in
    record {
      extent = all.extent;
      origin = all.origin;
      spacing = all.spacing;
      kind = all.kind;
      numbers = all.numbers;
      valid = all.valid;
    }

-- the place of a point in the numbers
place_below : (image : ImageData) (part : Bounds) (i j k : ℕ) → image.extent ≡ part → IsImage image → Has part i j k
    → index_at image.extent i j k < length image.values.items
place_below image part i j k same valid has =
    let here : Has image.extent i j k = subst (λ (b : Bounds). Has b i j k) (sym same) has in
    let below = index_at_below image.extent i j k here in
    rw valid.count below

-- the threshold of the image on a part is the part of the threshold
pub thresholded-on : (lo hi : ℤ) (w : WholeImage) (part : Bounds) (image : ImageData) → IsOn w part image → IsImage (thresholded lo hi image)
    → IsOn (threshold_of lo hi w) part (thresholded lo hi image)
thresholded-on lo hi w part image on valid =
    record {
      extent = on.extent;
      origin = on.origin;
      spacing = on.spacing;
      kind = on.kind;
      numbers = λ i j k has.
          get_or-map (kept_value lo hi) image.values.items (index_at image.extent i j k) (pos 0) (pos 0) (place_below image part i j k on.extent on.valid has)
          ∙ ap (kept_value lo hi) (on.numbers i j k has);
      valid = valid;
    }

-- a number below the count is that of a point
pub record PointOf (b : Bounds) (index : ℕ) : Type 0 where
  pub i : ℕ
  pub j : ℕ
  pub k : ℕ
  pub has : Has b i j k
  pub number : index_at b i j k ≡ index

pub point_of : (b : Bounds) (index : ℕ) → IsExtent b → index < count_of b → PointOf b index
point_of b index valid below =
    let w = size_x b in
    let h = size_y b in
    let in_row : index % w < w = mod_below index w (omega arith) in
    let in_plane : index / w % h < h = mod_below (index / w) h (omega arith) in
    let in_all : index / w / h < size_z b = plane_below index w h (size_z b) below in
    record {
      i = b.x0 + index % w;
      j = b.y0 + index / w % h;
      k = b.z0 + index / w / h;
      has = record {
        x = record { at_least = omega arith; at_most = omega (arith, valid.x.order) };
        y = record { at_least = omega arith; at_most = omega (arith, valid.y.order) };
        z = record { at_least = omega arith; at_most = omega (arith, valid.z.order) };
      };
      number =
          let x : b.x0 + index % w - b.x0 ≡ index % w = omega arith in
          let y : b.y0 + index / w % h - b.y0 ≡ index / w % h = omega arith in
          let z : b.z0 + index / w / h - b.z0 ≡ index / w / h = omega arith in
          index_at-by_rows b (b.x0 + index % w) (b.y0 + index / w % h) (b.z0 + index / w / h)
          ∙ rw (x, y, z) (number-of_parts index w h);
    }

-- two lists of numbers for the points of an extent are the same where they are at each point
same_items : (b : Bounds) (xs ys : List ℤ) → IsExtent b → length xs ≡ count_of b → length ys ≡ count_of b
    → ((i j k : ℕ) → Has b i j k → get_or xs (index_at b i j k) (pos 0) ≡ get_or ys (index_at b i j k) (pos 0)) → xs ≡ ys
same_items b xs ys valid long_x long_y each =
    ext_get_or (pos 0) xs ys (long_x ∙ sym long_y) (λ p below.
    let at = point_of b p valid (rw (← long_x) below) in
    ap (λ (n : ℕ). get_or xs n (pos 0)) (sym at.number) ∙ each at.i at.j at.k at.has ∙ ap (λ (n : ℕ). get_or ys n (pos 0)) at.number)

abbrev with_parts : Bounds → Vector → Vector → Kind8 → List ℤ → ImageData
with_parts e o s k xs =
    record { extent = e; origin = o; spacing = s; values = record { kind = k; items = xs } }

-- images of the same parts are the same
same_image : (a b : ImageData) → a.extent ≡ b.extent → a.origin ≡ b.origin → a.spacing ≡ b.spacing → a.values.kind ≡ b.values.kind
    → a.values.items ≡ b.values.items → a ≡ b
same_image a b extent origin spacing kind items =
    ap (λ (e : Bounds). with_parts e a.origin a.spacing a.values.kind a.values.items) extent
    ∙ ap (λ (v : Vector). with_parts b.extent v a.spacing a.values.kind a.values.items) origin
    ∙ ap (λ (v : Vector). with_parts b.extent b.origin v a.values.kind a.values.items) spacing
    ∙ ap (λ (k : Kind8). with_parts b.extent b.origin b.spacing k a.values.items) kind
    ∙ ap (λ (xs : List ℤ). with_parts b.extent b.origin b.spacing b.values.kind xs) items

-- two images of one whole on one part are the same
pub part_is_determined : PartIsDetermined
part_is_determined w part a b on_a on_b =
    let same : a.extent ≡ b.extent = on_a.extent ∙ sym on_b.extent in
    let long : length b.values.items ≡ count_of a.extent = on_b.valid.count ∙ ap count_of (sym same) in
    same_image a b same (on_a.origin ∙ sym on_b.origin) (on_a.spacing ∙ sym on_b.spacing) (on_a.kind ∙ sym on_b.kind)
    (same_items a.extent a.values.items b.values.items on_a.valid.extent on_a.valid.count long (λ i j k has.
    let here : Has part i j k = subst (λ (e : Bounds). Has e i j k) on_a.extent has in
    on_a.numbers i j k here ∙ sym (on_b.numbers i j k here) ∙ ap (λ (e : Bounds). get_or b.values.items (index_at e i j k) (pos 0)) (sym same)))

-- a threshold on the whole extent of its input has each number of the input, kept or 0
pub whole_threshold : WholeThreshold
whole_threshold lo hi input output valid gives =
    let on = gives (whole_of input) (on_itself input valid) in
    let kept = map (kept_value lo hi) input.values.items in
    let long : length kept ≡ count_of output.extent =
    length-map input.values.items (kept_value lo hi) ∙ valid.count ∙ ap count_of (sym on.extent) in
    same_image output (thresholded lo hi input) on.extent on.origin on.spacing on.kind
    (same_items output.extent output.values.items kept on.valid.extent on.valid.count long (λ i j k has.
    let here : Has input.extent i j k = subst (λ (e : Bounds). Has e i j k) on.extent has in
    on.numbers i j k here
    ∙ sym (get_or-map (kept_value lo hi) input.values.items (index_at input.extent i j k) (pos 0) (pos 0) (place_below input input.extent i j k refl valid here))
    ∙ ap (λ (e : Bounds). get_or kept (index_at e i j k) (pos 0)) (sym on.extent)))
