-- What a filter hands on from a cell to the cells that it makes of it.
use Rattle.std.specs.Prelude.{ℕ, List, [], ◌∷◌, ◌++◌, length, map, replicate}
use Rattle.viz_mesh_meaning.specs.Cells.{Cell}

-- what belongs to each cell, as its level, for each of the cells that are made of it
abbrev pub handed_on : {A : Type 0} → List A → List ℕ → List A
handed_on [] counts = []
handed_on (o ∷ os) [] = []
handed_on (o ∷ os) (n ∷ ns) = replicate n o ++ handed_on os ns

-- how many cells a filter makes of each
abbrev pub counts : (Cell → List Cell) → List Cell → List ℕ
counts f cells = map (λ c. length (f c)) cells
