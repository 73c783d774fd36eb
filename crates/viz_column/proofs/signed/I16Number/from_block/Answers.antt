use Rattle.std.proofs.Common.{refl}
use Rattle.std.specs.Int.{w16, cast_signed}
use Rattle.byteorder.specs.Endian.{big_number}
use Rattle.viz_column.specs.declared.kind.Kind8.TheVariants.{I16}
use Rattle.viz_column.proofs.BlockLemmas.{block_is_read}
use Rattle.viz_column.proofs.signed.I16Number.from_block.Goals as goal

pub returns : goal.returns
returns c = record {
  value =
      block_is_read I16 (λ n. n) (λ bytes. cast_signed w16 (big_number 2 bytes)) c.args.bytes.now _ _ _ _ (λ _. refl)
      c.read_i16_into.auto.dst c.deref_mut.ensures.value c.deref_mut.ensures.len c.in_ok-numbers.ensures.long c.read_i16_into.ensures;
}
