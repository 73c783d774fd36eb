-- What is made on a block of the images at the ports.
use Rattle.std.proofs.Common.{◌≡◌, Option, Some, sym, subst}
use Rattle.viz_dataset.specs.Images.{ImageData}
use Rattle.viz_extent.specs.Extent.{Bounds}
use Rattle.viz_meaning.specs.WholeImages.{GivesOn, GivesOnBoth, WholeImage}
use Rattle.viz_node_parts.specs.Made.{MakesImage, MakesOfBoth}
use Rattle.viz_parts.specs.declared.request.Part.{Part}
use Rattle.viz_parts.specs.declared.request.Part.TheVariants.{Image}
use Rattle.viz_parts.specs.declared.request.Request.{Request}
use Rattle.viz_parts.specs.declared.request.Request.TheVariants.{Block}

-- of one image
pub made_image : (filter : WholeImage → WholeImage) (request : Request) (input : Option Part)
    (out : Bounds) (image made : ImageData) → request ≡ Block out → input ≡ Some (Image image)
    → GivesOn filter image out made → MakesImage filter request input (Image made)
made_image filter request input out image made is there gives =
    subst (λ o. MakesImage filter request o (Image made)) (sym there)
    (subst (λ r. MakesImage filter r (Some (Image image)) (Image made)) (sym is) gives)

-- of two images
pub made_both : (filter : WholeImage → WholeImage → WholeImage) (request : Request)
    (first second : Option Part) (out : Bounds) (a b made : ImageData) → request ≡ Block out
    → first ≡ Some (Image a) → second ≡ Some (Image b) → GivesOnBoth filter a b out made
    → MakesOfBoth filter request first second (Image made)
made_both filter request first second out a b made is there beside gives =
    subst (λ o. MakesOfBoth filter request o second (Image made)) (sym there)
    (subst (λ o. MakesOfBoth filter request (Some (Image a)) o (Image made)) (sym beside)
    (subst (λ r. MakesOfBoth filter r (Some (Image a)) (Some (Image b)) (Image made)) (sym is)
    gives))
