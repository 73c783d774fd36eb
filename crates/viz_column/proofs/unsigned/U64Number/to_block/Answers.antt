use Rattle.std.proofs.Common.{refl}
use Rattle.viz_column.specs.declared.kind.Kind8.TheVariants.{U64}
use Rattle.viz_column.proofs.BlockLemmas.{naturals_are_written}
use Rattle.viz_column.proofs.unsigned.U64Number.to_block.Goals as goal

pub returns : goal.returns
returns c = record {
  value =
      naturals_are_written U64 c.args.numbers.now _ _ _ _ (λ _. refl)
      c.write_u64_into.auto.dst c.deref_mut.ensures.value c.deref_mut.ensures.len c.write_u64_into.ensures;
}
