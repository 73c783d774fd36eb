use Rattle.std.proofs.Common.{arith}
use Rattle.viz_replay.proofs.network.go_on.Goals as goal

pub returns-in-Ok-clause-sound : goal.returns-in-Ok-clause-sound
returns-in-Ok-clause-sound c =
    let s = c.requires.sound in
    record {
      last = c.args.at;
      past = omega arith;
      sound = c.networks_are_sound.ensures.applied s.last c.args.at c.args.edit.now c.args.net.now c.apply.new.self c.apply.result s.past s.sound c.apply.ensures.applies;
    }
