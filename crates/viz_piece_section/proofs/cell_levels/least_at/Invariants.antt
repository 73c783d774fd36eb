use Rattle.std.proofs.Common.{◌≡◌, ◌^◌, ◌<◌, take}
use Rattle.viz_sheet.specs.Ranked.{names_at}
use Rattle.viz_piece_section.specs.Steps.Leaves.{least_leaf}
use Rattle.viz_piece_section.proofs.cell_levels.least_at.Given as goal

abbrev pub invariant-loop-rank : goal.invariant-loop-rank
invariant-loop-rank l = record {
  value : l.least ≡ least_leaf (names_at l.sheet.names (take l.rank-index l.ranks));
  most : l.least < 2 ^ 31;
}
