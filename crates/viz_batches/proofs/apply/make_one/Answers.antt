use Rattle.std.proofs.Common.{Ok, arith}
use Rattle.viz_batches.proofs.apply.make_one.Goals as goal

pub returns-in-Ok-clause-sound : goal.returns-in-Ok-clause-sound
returns-in-Ok-clause-sound c =
    let s = c.requires.sound in
    record {
      last = c.args.at;
      past = omega arith;
      sound = c.networks_are_sound.ensures.applied s.last c.args.at c.args.edit.now c.args.net.now c.apply.new.self (Ok tt) s.past s.sound c.in-Ok.ensures.applies;
    }
