use Rattle.std.proofs.Common.{IfOk, ◌-◌, subst, arith}
use Rattle.std.proofs.lemmas.Option.{get_or_from_slice_get}
use Rattle.viz_executive.specs.Steps.Tasks.{IsItemOf}
use Rattle.viz_plan.specs.Sites.{known_in}
use Rattle.viz_executive.proofs.DoneLemmas.{planned_at}
use Rattle.viz_executive.proofs.level.LevelJob.work.Goals as goal

pub run_task-requires-clause-planned : goal.run_task-requires-clause-planned
run_task-requires-clause-planned c =
    let g = c.args.self.now.ground.now in
    planned_at (known_in g.sites) g.sink g.requests c.args.self.now.keys.now c.requires.asked.planned (c.args.task - c.args.self.now.first) _
    (omega (arith, c.requires.asked.from, c.requires.asked.below))

pub returns : goal.returns
returns c = record {
  item = λ key at.
      subst (λ k. IfOk c.run_task.result (IsItemOf c.args.self.now.ground.now.sites.net k))
      (get_or_from_slice_get c.args.self.now.keys.now (c.args.task - c.args.self.now.first) key _ at) c.run_task.ensures.item;
}
