use Rattle.std.proofs.Common.{length}
use Rattle.viz_sheet.specs.Arrays.{names_in, points_in, ranks_in}
use Rattle.viz_piece_stitch.specs.Steps.Joining.{AreJoined}
use Rattle.viz_piece_stitch.proofs.joining.with_parts.Given as goal

abbrev pub invariant-loop-part : goal.invariant-loop-part
invariant-loop-part l =
    AreJoined l.fn.parts.items (names_in l.names) (ranks_in l.initial.joined.ranks) (length l.yielded) (ranks_in l.joined.ranks) (points_in l.joined.places)
