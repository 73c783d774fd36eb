-- Blocks of images, and parts of whole images.
use Rattle.std.proofs.Common.{refl, sym, subst, ◌∙◌}
use Rattle.viz_dataset.specs.Images.{ImageData}
use Rattle.viz_extent.specs.Extent.{Bounds, Has}
use Rattle.viz_extent.specs.Parts.{IsPart}
use Rattle.viz_extent.proofs.PartLemmas.{points_of_part}
use Rattle.viz_meaning.specs.WholeImages.{IsOn, WholeImage, whole_of}
use Rattle.viz_parts.specs.Pieces.{IsBlockOf}

-- a block of an image is a part of the image as a whole one
pub block_is_on : (whole : ImageData) (block : Bounds) (image : ImageData)
    → IsBlockOf whole block image → IsOn (whole_of whole) image.extent image
block_is_on whole block image is =
    record {
      extent = refl;
      origin = is.same.origin;
      spacing = is.same.spacing;
      kind = is.same.kind;
      numbers = λ i j k has.
          is.same.values i j k (subst (λ (b : Bounds). Has b i j k) is.same.extent has);
      valid = is.part_is;
    }

-- a part of a whole image is a block of the image that is all of it
pub block_of_all : (w : WholeImage) (all : ImageData) (block : Bounds) (image : ImageData)
    → IsOn w w.extent all → IsPart all.extent block → IsOn w block image
    → IsBlockOf all block image
block_of_all w all block image on_all within on =
    let in_whole : IsPart w.extent block =
    subst (λ (b : Bounds). IsPart b block) on_all.extent within in
    record {
      whole_is = on_all.valid;
      part_is = on.valid;
      within = within;
      same = record {
        extent = on.extent;
        origin = on.origin ∙ sym on_all.origin;
        spacing = on.spacing ∙ sym on_all.spacing;
        kind = on.kind ∙ sym on_all.kind;
        values = λ i j k has.
            on.numbers i j k has
            ∙ sym (on_all.numbers i j k (points_of_part w.extent block in_whole i j k has));
      };
    }
