use Rattle.std.specs.Option.{option_copied}
use Rattle.viz_meaning.specs.ImageFilters.{crop_of}
use Rattle.viz_node_parts.proofs.PortLemmas.{made_image}
use Rattle.viz_node_parts.proofs.blocks.crop_block.Goals as goal

pub returns : goal.returns
returns c = record {
  made = λ box.
      made_image (crop_of box) c.args.request.now (option_copied c.args.input)
      c.block_of.result.now c.image_of-image.result.now c.in_ok-crop.field-0
      c.block_of.ensures.value c.image_of-image.ensures.value (c.in_ok-crop.ensures.value box);
}
