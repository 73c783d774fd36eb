use Rattle.std.proofs.Common.{◌≡◌, map, take}
use Rattle.viz_cells.specs.Steps.Keys.{key_name}
use Rattle.viz_cells.proofs.joined.joined_twos.Given as goal

abbrev pub invariant-loop-key : goal.invariant-loop-key
invariant-loop-key l = l.pairs.items ≡ map (key_name l.names) (take l.key-index l.keys)
