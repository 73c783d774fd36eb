use Rattle.std.proofs.Common.{◌≡◌, map, take}
use Rattle.viz_strip.specs.Names.{names_of}
use Rattle.viz_strip.specs.Steps.Named.{name_at}
use Rattle.viz_strip.proofs.naming.named_rows.Given as goal

abbrev pub invariant-loop-index : goal.invariant-loop-index
invariant-loop-index l = names_of l.strips.items ≡ map (map (name_at l.names)) (take l.index l.rows)
