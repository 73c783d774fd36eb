use Rattle.std.proofs.Common.{refl, take, w8}
use Rattle.std.proofs.lemmas.List.{length-take-le}
use lib.Dec.{leb}
use Rattle.viz_lanes.proofs.WordLemmas.{compared_both}
use Rattle.viz_lanes.proofs.unsigned.U8Lane.within_word.Goals as goal

pub returns : goal.returns
returns c =
    let block = c.args.block.now in
    compared_both w8 leb c.args.lo c.args.hi (take 64 block) _ (length-take-le 64 block c.requires.long) refl
