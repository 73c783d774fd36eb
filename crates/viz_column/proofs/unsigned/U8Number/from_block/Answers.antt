use Rattle.std.proofs.lemmas.Result.{IfOk-weaker}
use Rattle.viz_column.proofs.BlockLemmas.{bytes_are_read}
use Rattle.viz_column.proofs.unsigned.U8Number.from_block.Goals as goal

pub returns : goal.returns
returns c = record {
  value =
      IfOk-weaker c.copied.result _ _ (λ v same. bytes_are_read v.items c.args.bytes.now same) c.copied.ensures;
}
