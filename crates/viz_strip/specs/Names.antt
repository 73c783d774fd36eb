-- Strips by names, as callers see them.
use Rattle.std.specs.Prelude.{ℕ, List, map}
use Rattle.viz_strip.specs.declared.naming.Strip.{Strip}

-- the names of each strip
abbrev pub names_of : List Strip → List (List ℕ)
names_of strips = map (λ s. s.names.items) strips
