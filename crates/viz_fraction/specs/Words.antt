-- Five numbers and two weights of 64 bits, as those that are reckoned with elsewhere
-- (docs/FORMATS-OF-FILTERS.md, "Exact points").
use Rattle.std.specs.Prelude.{pos}
use Rattle.viz_fraction.specs.declared.crossings.Weights.{Weights}
use Rattle.viz_fraction.specs.declared.numbers.Numbers.{Numbers}
use Rattle.viz_fraction.specs.declared.small_crossings.Shares.{Shares}
use Rattle.viz_fraction.specs.declared.words.Words.{Words}

-- the same five numbers
abbrev pub numbers_of : Words → Numbers
numbers_of n = record { x = n.x; y = n.y; z = n.z; s = n.s; w = n.w }

-- the same two weights
abbrev pub weights_of : Shares → Weights
weights_of k = record { outside = pos k.outside; inside = pos k.inside }
