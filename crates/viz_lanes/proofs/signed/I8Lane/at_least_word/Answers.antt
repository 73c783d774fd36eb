use Rattle.std.proofs.Common.{◌∙◌, map, take, of_z, w8}
use Rattle.std.proofs.lemmas.List.{length-map, length-take-le}
use Rattle.viz_lanes.proofs.WordLemmas.{compared, signed_le, signed_at_least}
use Rattle.viz_lanes.proofs.signed.I8Lane.at_least_word.Goals as goal

pub returns : goal.returns
returns c =
    let block = c.args.block.now in
    let long = length-map (take 64 block) (of_z w8) ∙ length-take-le 64 block c.requires.long in
    compared w8 (signed_le w8) (of_z w8 c.args.v) (map (of_z w8) (take 64 block)) _ long
    (signed_at_least w8 c.args.v block 64 c.ranges.v c.requires.own)
