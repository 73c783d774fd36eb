use Rattle.std.proofs.Common.{◌∙◌, map, take, of_z, w8}
use Rattle.std.proofs.lemmas.List.{length-map, length-take-le}
use Rattle.viz_lanes.proofs.WordLemmas.{compared_both, signed_le, signed_within}
use Rattle.viz_lanes.proofs.signed.I8Lane.within_word.Goals as goal

pub returns : goal.returns
returns c =
    let block = c.args.block.now in
    let long = length-map (take 64 block) (of_z w8) ∙ length-take-le 64 block c.requires.long in
    compared_both w8 (signed_le w8) (of_z w8 c.args.lo) (of_z w8 c.args.hi) (map (of_z w8) (take 64 block)) _ long
    (signed_within w8 c.args.lo c.args.hi block 64 c.ranges.lo c.ranges.hi c.requires.own)
