use Rattle.std.proofs.Common.{subst}
use Rattle.std.specs.Option.{option_copied}
use Rattle.viz_meaning.specs.ImageFilters.{arith_of}
use Rattle.viz_meaning.specs.WholeImages.{GivesOnBoth}
use Rattle.viz_node_meaning.specs.Data.{op_with}
use Rattle.viz_node_parts.proofs.PortLemmas.{made_both}
use Rattle.viz_node_parts.proofs.blocks.arith_block.Goals as goal

pub returns : goal.returns
returns c =
    let out = c.block_of-out.result.now in
    let a = c.image_of-a.result.now in
    let b = c.image_of-b.result.now in
    let made = c.in_ok-arith.field-0 in
    record {
      made =
          made_both (arith_of (op_with c.args.op)) c.args.request.now (option_copied c.args.first)
          (option_copied c.args.second) out a b made c.block_of-out.ensures.value
          c.image_of-a.ensures.value c.image_of-b.ensures.value
          (subst (λ op. GivesOnBoth (arith_of op) a b out made) c.op_with.ensures.value
          c.in_ok-arith.ensures.value);
    }
