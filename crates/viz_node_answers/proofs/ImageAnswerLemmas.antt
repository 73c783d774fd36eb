-- Blocks of the images that feed a node, and the block that is made of them.
use Rattle.std.proofs.Common.{
  ◌≡◌,
  [],
  ◌∷◌,
  Option,
  None,
  Some,
  Ok,
  refl,
  sym,
  ap,
  subst,
  ◌∙◌,
}
use Rattle.viz_dataset.specs.Images.{ImageData}
use Rattle.viz_dataset.specs.declared.dataset.Dataset.{Dataset}
use Rattle.viz_dataset.specs.declared.dataset.Dataset.TheVariants as dataset
use Rattle.viz_extent.specs.Extent.{Bounds}
use Rattle.viz_kinds.specs.declared.settings.Settings.{Settings}
use Rattle.viz_kinds.specs.declared.settings.Settings.TheVariants as settings
use Rattle.viz_meaning.specs.ImageFilters.{
  arith_of,
  crop_of,
  sample_of,
  smooth_of,
  smooth_within,
  threshold_of,
}
use Rattle.viz_meaning.specs.WholeImages.{IsOn, WholeImage, whole_of}
use Rattle.viz_node_division.specs.Divided.{Divided, wholes}
use Rattle.viz_node_division.proofs.RowLemmas.{first_whole, row_made, whole_at}
use Rattle.viz_node_meaning.specs.Data.{IsOfOne, IsOfTwo, IsWhole, op_with, radius_with}
use Rattle.viz_node_meaning.specs.Information.{box_with, fed_at, rate_with}
use Rattle.viz_node_meaning.specs.Rules.{Inputs}
use Rattle.viz_parts.specs.Pieces.{IsAnswer, IsBlockOf}
use Rattle.viz_parts.specs.declared.request.Part.TheVariants.{Image}
use Rattle.viz_parts.specs.declared.request.Request.TheVariants.{Block}
use Rattle.viz_node_answers.specs.Answers.{IsMadeFrom, IsPartFor}
use Rattle.viz_node_answers.specs.ImageAnswers.{
  ArithAnswers,
  BlockAnswers,
  LiesInImage,
  image_filter_of,
}
use Rattle.viz_node_answers.proofs.BlockLemmas.{block_is_on, block_of_all}

-- ---- what is at the ports

-- the dataset at the second port
second_whole : (inputs : Inputs Divided) → fed_at 2 (wholes inputs) ≡ whole_at (fed_at 2 inputs)
second_whole [] = refl
second_whole (d ∷ []) = refl
second_whole (d ∷ e ∷ inputs) = refl

-- the image that feeds the first port
first_image : (inputs : Inputs Divided) (first : Divided) (whole : ImageData)
    → fed_at 1 inputs ≡ Some first → first.whole ≡ dataset.Image whole
    → fed_at 1 (wholes inputs) ≡ Some (dataset.Image whole)
first_image inputs first whole fed is =
    first_whole inputs ∙ ap whole_at fed ∙ ap (λ d. Some d) is

-- and the second port
second_image : (inputs : Inputs Divided) (second : Divided) (whole : ImageData)
    → fed_at 2 inputs ≡ Some second → second.whole ≡ dataset.Image whole
    → fed_at 2 (wholes inputs) ≡ Some (dataset.Image whole)
second_image inputs second whole fed is =
    second_whole inputs ∙ ap whole_at fed ∙ ap (λ d. Some d) is

-- ---- what is given and wanted

-- a block of what feeds a port is a part of the image there as a whole one
part_of_input : (d : Divided) (whole : ImageData) (block : Bounds) (image : ImageData)
    → d.whole ≡ dataset.Image whole → IsPartFor d (Block block) (Image image)
    → IsOn (whole_of whole) image.extent image
part_of_input d whole block image is h =
    block_is_on whole block image
    (subst (λ (w : Dataset). IsAnswer w d.division (Block block) (Image image)) is h)

-- a part of the whole image that is made is a block of what the node makes
block_of_made : (w : WholeImage) (made : Divided) (block : Bounds) (image : ImageData)
    → IsWhole w (Ok made.whole) → LiesInImage block made.whole → IsOn w block image
    → IsPartFor made (Block block) (Image image)
block_of_made w made block image is lies on =
    let given = is.2 in
    let same : made.whole ≡ dataset.Image is.0 = cc in
    let answer : IsBlockOf is.0 block image =
    block_of_all w is.0 block image is.1
    (subst (λ (d : Dataset). LiesInImage block d) same lies) on in
    subst (λ (d : Dataset). IsAnswer d made.division (Block block) (Image image)) (sym same) answer

-- ---- filters of one image

-- a filter, if there is one, makes this of a whole image
abbrev IsFilteredBy : Option (WholeImage → WholeImage) → WholeImage → Dataset → Type 0
IsFilteredBy (Some filter) w d = IsWhole (filter w) (Ok d)
IsFilteredBy None w d = ⊥

-- a filter that is the same makes the same
by_filter : (own filter : WholeImage → WholeImage) (w : WholeImage) (d : Dataset)
    → Some own ≡ Some filter → IsWhole (own w) (Ok d) → IsWhole (filter w) (Ok d)
by_filter own filter w d e h =
    subst (λ (f : Option (WholeImage → WholeImage)). IsFilteredBy f w d) e h

-- what a filter makes of the image at the first port
of_first : (filter : WholeImage → WholeImage) (whole : ImageData) (s : Settings)
    (first made : Divided) (m : IsMadeFrom s first made) → first.whole ≡ dataset.Image whole
    → IsOfOne filter (fed_at 1 (wholes m.inputs)) (Ok made.whole)
    → IsWhole (filter (whole_of whole)) (Ok made.whole)
of_first filter whole s first made m is row =
    subst (λ (d : Option Dataset). IsOfOne filter d (Ok made.whole))
    (first_image m.inputs first whole m.fed is) row

-- so does a node, by its kind
image_made : (s : Settings) (filter : WholeImage → WholeImage) (whole : ImageData)
    (first made : Divided)
    → image_filter_of s whole.extent ≡ Some filter → first.whole ≡ dataset.Image whole
    → IsMadeFrom s first made → IsWhole (filter (whole_of whole)) (Ok made.whole)
image_made (settings.Crop x0 x1 y0 y1 z0 z1) filter whole first made e is m =
    let s = settings.Crop x0 x1 y0 y1 z0 z1 in
    by_filter (crop_of (box_with x0 x1 y0 y1 z0 z1)) filter (whole_of whole) made.whole e
    (of_first (crop_of (box_with x0 x1 y0 y1 z0 z1)) whole s first made m is
    (row_made s m.inputs made.whole m.made_of.exact))
image_made (settings.Sample x y z) filter whole first made e is m =
    let s = settings.Sample x y z in
    by_filter (sample_of (rate_with x y z)) filter (whole_of whole) made.whole e
    (of_first (sample_of (rate_with x y z)) whole s first made m is
    (row_made s m.inputs made.whole m.made_of.exact))
image_made (settings.Threshold lo hi) filter whole first made e is m =
    let s = settings.Threshold lo hi in
    by_filter (threshold_of lo hi) filter (whole_of whole) made.whole e
    (of_first (threshold_of lo hi) whole s first made m is
    (row_made s m.inputs made.whole m.made_of.exact))
image_made (settings.Smooth radius) filter whole first made e is m =
    let s = settings.Smooth radius in
    by_filter (smooth_within (radius_with radius) whole.extent) filter (whole_of whole) made.whole e
    (of_first (smooth_of (radius_with radius)) whole s first made m is
    (row_made s m.inputs made.whole m.made_of.exact))
image_made _ filter whole first made e is m = let bad : ⊥ = cc in absurd bad

pub block_answers : BlockAnswers
block_answers s filter whole first made e is m asked out input image lies gives h =
    block_of_made (filter (whole_of whole)) made out image
    (image_made s filter whole first made e is m) lies
    (gives (whole_of whole) (part_of_input first whole asked input is h))

-- ---- arithmetic of two images

-- what a filter makes of the images at two ports
of_both : (filter : WholeImage → WholeImage → WholeImage) (a b : ImageData) (made : Dataset)
    (x y : Option Dataset)
    → x ≡ Some (dataset.Image a) → y ≡ Some (dataset.Image b) → IsOfTwo filter x y (Ok made)
    → IsWhole (filter (whole_of a) (whole_of b)) (Ok made)
of_both filter a b made x y is are row =
    subst (λ (d : Option Dataset). IsOfTwo filter (Some (dataset.Image a)) d (Ok made)) are
    (subst (λ (d : Option Dataset). IsOfTwo filter d y (Ok made)) is row)

pub arith_answers : ArithAnswers
arith_answers op a b first second made is are m asked also out input other image lies gives h t =
    let filter = arith_of (op_with op) in
    let row = row_made (settings.Arith op) m.inputs made.whole m.made_of.exact in
    let whole =
    of_both filter a b made.whole (fed_at 1 (wholes m.inputs)) (fed_at 2 (wholes m.inputs))
    (first_image m.inputs first a m.fed_first is)
    (second_image m.inputs second b m.fed_second are) row in
    block_of_made (filter (whole_of a) (whole_of b)) made out image whole lies
    (gives (whole_of a) (whole_of b)
    (part_of_input first a asked input is h) (part_of_input second b also other are t))
