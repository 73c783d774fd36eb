use Rattle.viz_task_parts.proofs.PassedLemmas.{datasets_passed}
use Rattle.viz_task_parts.proofs.WriterLemmas.{parts_passed}
use Rattle.viz_task_parts.proofs.laws.parts_are_passed.Goals as goal

pub returns : goal.returns
returns c = record {
  passed = parts_passed c.divided_by_ports.ensures.ports;
  datasets = datasets_passed;
}
