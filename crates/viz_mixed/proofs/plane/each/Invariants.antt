use Rattle.std.proofs.Common.{◌≡◌, map, take}
use Rattle.viz_grid_section.specs.ImageSection.{insides}
use Rattle.viz_mixed.proofs.plane.each.Given as goal

abbrev pub invariant-loop-number : goal.invariant-loop-number
invariant-loop-number g l = l.bits ≡ insides l.level (map g.T.Number.value (take l.number-index l.numbers))
