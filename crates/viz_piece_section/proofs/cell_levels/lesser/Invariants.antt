use Rattle.std.proofs.Common.{◌≡◌, ◌^◌, ◌<◌, min, take}
use Rattle.viz_piece_section.specs.Steps.Leaves.{least_of}
use Rattle.viz_piece_section.proofs.cell_levels.lesser.Given as goal

abbrev pub invariant-loop-leaf : goal.invariant-loop-leaf
invariant-loop-leaf l = record {
  value : l.least ≡ min l.number (least_of (take l.leaf-index l.name));
  most : l.least < 2 ^ 31;
}
