use Rattle.std.proofs.lemmas.Result.{IfOk-weaker}
use Rattle.viz_column.proofs.BlockLemmas.{signed_are_read}
use Rattle.viz_column.proofs.signed.I8Number.from_block.Goals as goal

pub returns : goal.returns
returns c = record {
  value =
      IfOk-weaker c.signed_bytes.result _ _ (λ v same. signed_are_read v.items c.args.bytes.now same) c.signed_bytes.ensures;
}
