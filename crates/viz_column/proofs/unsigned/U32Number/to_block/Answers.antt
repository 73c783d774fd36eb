use Rattle.std.proofs.Common.{refl}
use Rattle.viz_column.specs.declared.kind.Kind8.TheVariants.{U32}
use Rattle.viz_column.proofs.BlockLemmas.{naturals_are_written}
use Rattle.viz_column.proofs.unsigned.U32Number.to_block.Goals as goal

pub returns : goal.returns
returns c = record {
  value =
      naturals_are_written U32 c.args.numbers.now _ _ _ _ (λ _. refl)
      c.write_u32_into.auto.dst c.deref_mut.ensures.value c.deref_mut.ensures.len c.write_u32_into.ensures;
}
