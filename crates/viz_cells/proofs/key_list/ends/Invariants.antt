use Rattle.std.proofs.Common.{[], take}
use Rattle.std.specs.List.{flat_map}
use Rattle.viz_cells.specs.Steps.Numbered.{AreAdded}
use Rattle.viz_cells.proofs.key_list.ends.Given as goal

-- the keys of the cells so far
abbrev pub invariant-loop-piece : goal.invariant-loop-piece
invariant-loop-piece l = AreAdded [] (flat_map (λ piece. piece) (take l.piece-index l.pieces)) l.ends.items
