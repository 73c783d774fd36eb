use Rattle.viz_piece_restrict.specs.Steps.Cuts.{ArePieces}
use Rattle.viz_piece_restrict.proofs.mesh.pieces_in_turn.Given as goal

abbrev pub invariant-loop-part : goal.invariant-loop-part
invariant-loop-part l = ArePieces l.p l.n l.ghosts l.part-index l.parts l.cuts.items
