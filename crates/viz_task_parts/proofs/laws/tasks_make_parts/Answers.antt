use Rattle.viz_task_parts.proofs.TaskLemmas.{Laws, tasks_fail, tasks_make, tasks_take}
use Rattle.viz_task_parts.proofs.laws.tasks_make_parts.Goals as goal

pub returns : goal.returns
returns c =
    let laws : Laws = record {
      fit = c.plans_fit.ensures.tasks;
      told = c.told_is_of_datasets.ensures.one;
      exact = c.datasets_are_divided.ensures.given;
      one = c.datasets_are_divided.ensures.one;
      ports = c.divided_by_ports.ensures.ports;
      shares = c.divisions_share_out.ensures.all;
      gives = c.nodes_make_exact.ensures.made;
    } in
    let given = c.given_meshes_are_leveled.ensures in
    record {
      take = tasks_take laws given.fit c.asked_parts_are_taken.ensures.taken;
      made = tasks_make laws given.leveled c.parts_made_answer.ensures.made;
      fault = tasks_fail laws given.fit c.asked_parts_are_taken.ensures.taken;
    }
