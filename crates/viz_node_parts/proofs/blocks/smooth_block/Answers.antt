use Rattle.std.proofs.Common.{Option, sym, subst}
use Rattle.std.specs.Option.{option_copied}
use Rattle.viz_extent.specs.Extent.{Bounds}
use Rattle.viz_meaning.specs.ImageFilters.{smooth_within}
use Rattle.viz_meaning.specs.WholeImages.{GivesOn}
use Rattle.viz_node_meaning.specs.Data.{radius_with}
use Rattle.viz_node_parts.specs.Made.{MakesMean}
use Rattle.viz_node_parts.proofs.PortLemmas.{made_image}
use Rattle.viz_node_parts.proofs.blocks.smooth_block.Goals as goal
use Rattle.viz_parts.specs.declared.request.Part.TheVariants.{Image}

pub returns : goal.returns
returns c =
    let radius = radius_with c.args.radius in
    let whole = c.in-Some.whole in
    let out = c.block_of-out.result.now in
    let image = c.image_of-image.result.now in
    let made = c.in_ok-smooth-in-Some.field-0 in
    let request = c.args.request.now in
    let input = option_copied c.args.input in
    let gives = subst (λ r. GivesOn (smooth_within r whole) image out made) c.radius_with.ensures.value
    c.in_ok-smooth-in-Some.ensures.value in
    record {
      made =
          subst (λ (w : Option Bounds). MakesMean radius w request input (Image made))
          (sym c.in-Some.is)
          (made_image (smooth_within radius whole) request input out image made
          c.block_of-out.ensures.value c.image_of-image.ensures.value gives);
    }
