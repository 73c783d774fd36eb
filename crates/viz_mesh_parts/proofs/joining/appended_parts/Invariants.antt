use Rattle.std.proofs.Common.{◌≡◌, take}
use Rattle.std.specs.List.{flat_map}
use Rattle.viz_piece_divisions.specs.Answers.{parts_in}
use Rattle.viz_mesh_parts.proofs.joining.appended_parts.Given as goal

abbrev pub invariant-loop-input : goal.invariant-loop-input
invariant-loop-input l = l.parts.items ≡ flat_map parts_in (take l.input-index l.inputs)
