-- Five numbers of the code, as the point that they stand for (docs/FORMATS-OF-FILTERS.md, "Exact
-- points").
use Rattle.viz_fraction.specs.declared.numbers.Numbers.{Numbers}
use Rattle.viz_fraction.specs.Points.{Point, numbers}

-- the same five numbers
abbrev pub point_of : Numbers → Point
point_of n = numbers n.x n.y n.z n.s n.w
