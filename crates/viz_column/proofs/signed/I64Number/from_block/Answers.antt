use Rattle.std.proofs.Common.{refl}
use Rattle.std.specs.Int.{w64, cast_signed}
use Rattle.byteorder.specs.Endian.{big_number}
use Rattle.viz_column.specs.declared.kind.Kind8.TheVariants.{I64}
use Rattle.viz_column.proofs.BlockLemmas.{block_is_read}
use Rattle.viz_column.proofs.signed.I64Number.from_block.Goals as goal

pub returns : goal.returns
returns c = record {
  value =
      block_is_read I64 (λ n. n) (λ bytes. cast_signed w64 (big_number 8 bytes)) c.args.bytes.now _ _ _ _ (λ _. refl)
      c.read_i64_into.auto.dst c.deref_mut.ensures.value c.deref_mut.ensures.len c.in_ok-numbers.ensures.long c.read_i64_into.ensures;
}
