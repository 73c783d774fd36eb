use Rattle.std.proofs.Common.{◌≡◌, ◌*◌, ◌≤◌, length, take}
use Rattle.std.specs.List.{flat_map}
use Rattle.std.specs.List.Sorted.{IsPermutation}
use Rattle.viz_sheet.specs.Arrays.{ranks_in}
use Rattle.viz_mesh_meaning.specs.Facets.{facets_of}
use Rattle.viz_boundary.specs.Steps.Keys.{keyed_from}
use Rattle.viz_boundary.specs.Steps.Slots.{held}
use Rattle.viz_boundary.proofs.keys.facet_keys.Given as goal

abbrev pub invariant-loop-i : goal.invariant-loop-i
invariant-loop-i l = record {
  place : l.at ≡ length (flat_map facets_of (take l.i (ranks_in l.ranks)));
  few : l.at ≤ 4 * l.i;
  held : IsPermutation (keyed_from 0 (flat_map facets_of (take l.i (ranks_in l.ranks)))) (held l.slots);
}
