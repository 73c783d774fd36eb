use Rattle.std.proofs.lemmas.Result.{IfOk-weaker}
use Rattle.viz_column.proofs.BlockLemmas.{bytes_are_written}
use Rattle.viz_column.proofs.unsigned.U8Number.to_block.Goals as goal

pub returns : goal.returns
returns c = record {
  value =
      IfOk-weaker c.copied.result _ _ (λ v same. bytes_are_written v.items c.args.numbers.now same) c.copied.ensures;
}
