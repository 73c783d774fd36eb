use Rattle.std.proofs.Common.{◌+◌, arith}
use Rattle.viz_plan_tests.proofs.tests.Story.apply.Goals as goal

pub invariant_of-self : goal.invariant_of-self
invariant_of-self c =
    c.networks_are_sound.ensures.applied c.self.inside.at (c.self.inside.at + 1) c.args.edit.now c.self.inside.net c.apply-answer.new.self
    c.apply-answer.result (omega arith) c.self.invariant c.apply-answer.ensures.applies
