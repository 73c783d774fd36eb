use Rattle.std.proofs.Common.{refl}
use Rattle.byteorder.specs.Endian.{big_number}
use Rattle.viz_column.specs.declared.kind.Kind8.TheVariants.{U16}
use Rattle.viz_column.proofs.BlockLemmas.{naturals_are_read}
use Rattle.viz_column.proofs.unsigned.U16Number.from_block.Goals as goal

pub returns : goal.returns
returns c = record {
  value =
      naturals_are_read U16 (big_number 2) c.args.bytes.now _ _ _ _ (λ _. refl)
      c.read_u16_into.auto.dst c.deref_mut.ensures.value c.deref_mut.ensures.len c.in_ok-numbers.ensures.long c.read_u16_into.ensures;
}
