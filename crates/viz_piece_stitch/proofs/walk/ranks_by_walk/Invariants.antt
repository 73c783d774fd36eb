use Rattle.std.proofs.Common.{◌≡◌, ◌≤◌, length, map, take}
use Rattle.viz_sheet.specs.Ranked.{rank_of}
use Rattle.viz_piece_stitch.specs.Steps.Walk.{PrecedeFrom}
use Rattle.viz_piece_stitch.proofs.walk.ranks_by_walk.Given as goal

abbrev pub invariant-loop-name : goal.invariant-loop-name
invariant-loop-name g l = record {
  list : l.ranks.items ≡ map (rank_of l.names) (take l.name-index l.piece);
  within : l.at ≤ length l.names;
  before : PrecedeFrom l.names l.at l.piece l.name-index;
}
