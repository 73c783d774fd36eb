use Rattle.viz_mesh_meaning.specs.Facets.{facets_of}
use Rattle.viz_mesh_parts.specs.Steps.{AreHandedTo}
use Rattle.viz_mesh_parts.proofs.bounding.facet_levels.Given as goal

abbrev pub invariant-loop-i : goal.invariant-loop-i
invariant-loop-i l = AreHandedTo facets_of l.part l.made.cells l.i l.at l.levels.items
