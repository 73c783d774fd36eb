use Rattle.std.proofs.Common.{◌≤◌, length}
use Rattle.viz_piece_stitch.specs.Steps.Walk.{ComeBefore}
use Rattle.viz_piece_stitch.proofs.walk.first_from.Given as goal

abbrev pub invariant-loop-index : goal.invariant-loop-index
invariant-loop-index g l = record { within : l.index ≤ length l.names; before : ComeBefore l.names l.index l.name }
