use Rattle.std.proofs.Common.{◌≡◌, take, length}
use Rattle.std.specs.List.{flat_map}
use Rattle.viz_flags.specs.Flags.{flags as bits_of}
use Rattle.viz_sheet.specs.Steps.Marking.{IsMarkedBy}
use Rattle.viz_flags.proofs.flags.set_all.Given as goal

abbrev pub invariant-loop-triangle : goal.invariant-loop-triangle
invariant-loop-triangle g l = record {
  bits : IsMarkedBy (bits_of l.initial.flags) (flat_map g.T.Ends.list (take l.triangle-index l.triangles)) (bits_of l.flags);
  size : length l.flags ≡ length l.initial.flags;
}
