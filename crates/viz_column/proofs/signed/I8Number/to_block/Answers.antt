use Rattle.viz_column.proofs.BlockLemmas.{signed_are_written}
use Rattle.viz_column.proofs.signed.I8Number.to_block.Goals as goal

pub returns : goal.returns
returns c = record {
  value =
      signed_are_written c.args.numbers.now _ _ _ _
      c.write_i8_into.auto.dst c.deref_mut.ensures.value c.deref_mut.ensures.len c.write_i8_into.ensures;
}
