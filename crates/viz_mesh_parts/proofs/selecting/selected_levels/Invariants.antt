use Rattle.viz_mesh_parts.specs.Steps.{AreHandedTo, itself}
use Rattle.viz_mesh_parts.proofs.selecting.selected_levels.Given as goal

abbrev pub invariant-loop-i : goal.invariant-loop-i
invariant-loop-i l = AreHandedTo itself l.part l.made.cells l.i l.at l.levels.items
