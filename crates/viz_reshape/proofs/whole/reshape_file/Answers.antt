use Rattle.std.proofs.Common.{Err, sym, subst}
use Rattle.viz_network.specs.declared.fault.Stop.{Stop}
use Rattle.viz_node_meaning.specs.Scratch.{Answers}
use Rattle.viz_reshape.specs.Reshape.{IsReshaped}
use Rattle.viz_reshape.proofs.WorkLemmas.{made, op_stopped, source_stopped}
use Rattle.viz_reshape.proofs.whole.reshape_file.Goals as goal

pub returns-in-Err : goal.returns-in-Err
returns-in-Err c =
    let rule = IsReshaped c.args.reshape.now c.args.source.0 c.args.op.0 c.args.bytes in
    record {
      value = subst (λ (s : Stop). Answers rule (Err s)) (sym c.stop_at.ensures.value)
          (source_stopped c.args.reshape.now c.args.source c.args.op c.args.bytes c.in-Err.stop c.in-Err.ensures.value);
    }

pub returns-in-Ok-made_of : goal.returns-in-Ok-made_of
returns-in-Ok-made_of c = record {
  value = made c.args.reshape.now c.args.source c.args.op c.args.bytes c.in-Ok.dataset c.in-Ok-made_of.made c.in-Ok.ensures.value c.in-Ok-made_of.ensures.value;
}

pub returns-in-Err-made_of : goal.returns-in-Err-made_of
returns-in-Err-made_of c =
    let rule = IsReshaped c.args.reshape.now c.args.source.0 c.args.op.0 c.args.bytes in
    record {
      value = subst (λ (s : Stop). Answers rule (Err s)) (sym c.stop_at-in-Err-made_of.ensures.value)
          (op_stopped c.args.reshape.now c.args.source c.args.op c.args.bytes c.in-Ok.dataset c.in-Err-made_of.stop c.in-Ok.ensures.value c.in-Err-made_of.ensures.value);
    }
