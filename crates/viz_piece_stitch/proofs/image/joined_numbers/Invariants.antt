use Rattle.std.proofs.Common.{◌≡◌, map}
use Rattle.std.specs.List.{flat_map}
use Rattle.viz_piece_stitch.specs.Steps.Slabs.{values_in}
use Rattle.viz_piece_stitch.proofs.image.joined_numbers.Given as goal

abbrev pub invariant-loop-part : goal.invariant-loop-part
invariant-loop-part g l = map g.T.Number.value l.numbers.items ≡ flat_map values_in l.yielded
