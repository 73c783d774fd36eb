use Rattle.std.proofs.Common.{refl}
use Rattle.viz_column.specs.declared.kind.Kind8.TheVariants.{U16}
use Rattle.viz_column.proofs.BlockLemmas.{naturals_are_written}
use Rattle.viz_column.proofs.unsigned.U16Number.to_block.Goals as goal

pub returns : goal.returns
returns c = record {
  value =
      naturals_are_written U16 c.args.numbers.now _ _ _ _ (λ _. refl)
      c.write_u16_into.auto.dst c.deref_mut.ensures.value c.deref_mut.ensures.len c.write_u16_into.ensures;
}
