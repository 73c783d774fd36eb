use Rattle.std.proofs.Common.{◌≡◌, ◌++◌, replicate}
use Rattle.viz_piece_tets.proofs.layers.push_layer.Given as goal

abbrev pub invariant-loop : goal.invariant-loop
invariant-loop l = l.levels.items ≡ l.initial.levels.items ++ replicate l.counter l.level
