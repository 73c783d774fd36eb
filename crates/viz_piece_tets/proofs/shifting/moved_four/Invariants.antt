use Rattle.std.proofs.Common.{◌≡◌, ◌+◌, map, take}
use Rattle.viz_piece_tets.proofs.shifting.moved_four.Given as goal

abbrev pub invariant-loop-name : goal.invariant-loop-name
invariant-loop-name l = l.moved.items ≡ map (map (λ leaf. leaf + l.by)) (take l.name-index l.names)
