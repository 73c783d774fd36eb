use Rattle.viz_once.proofs.FileLemmas.{scratch_answers, scratch_fault}
use Rattle.viz_once.proofs.evaluation.evaluated.Goals as goal

pub returns-in-Ok-clause-value : goal.returns-in-Ok-clause-value
returns-in-Ok-clause-value c =
    scratch_answers c.args.filter.now c.args.bytes c.op_node-op.ensures.numbers c.in_ok-source.source c.op_node-op.result c.in_ok-source.ensures c.op_node-op.ensures.value
    c.in-Ok.field-0 c.in-Ok.ensures c.given.result c.given.ensures.value

pub returns-in-Err-clause-value : goal.returns-in-Err-clause-value
returns-in-Err-clause-value c =
    scratch_fault c.args.filter.now c.args.bytes c.op_node-op.ensures.numbers c.in_ok-source.source c.op_node-op.result c.in_ok-source.ensures c.op_node-op.ensures.value
    c.in-Err.fault c.in-Err.ensures
