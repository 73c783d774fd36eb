-- Where the cells of a section begin in its connectivity.
use Rattle.std.specs.Prelude.{ℕ, ◌+◌, List, [], ◌∷◌, ◌++◌, length, Option, if◌then◌else◌}
use Rattle.viz_mesh_write.specs.Steps.Passes.{is_kept}
use Rattle.viz_mesh_write.specs.Steps.SheetCells.{CellsData}

-- how many indices the kept ones of cells have, by what is seen of each
abbrev pub count_by : {X : Type 0} → (X → List ℕ) → Option ℕ → List X → ℕ
count_by list size [] = 0
count_by list size (x ∷ xs) =
    if is_kept size (list x) then length (list x) + count_by list size xs else count_by list size xs

-- where the kept ones of cells begin, with so many indices in front, each as a cell of one index
abbrev pub starts_by : {X : Type 0} → (X → List ℕ) → Option ℕ → ℕ → List X → List (List ℕ)
starts_by list size n [] = []
starts_by list size n (x ∷ xs) =
    if is_kept size (list x) then (n ∷ []) ∷ starts_by list size (n + length (list x)) xs
    else starts_by list size n xs

-- the same of cells by ranks
abbrev pub count_in : Option ℕ → List (List ℕ) → ℕ
count_in size cells = count_by (λ cell. cell) size cells

abbrev pub starts_in : Option ℕ → ℕ → List (List ℕ) → List (List ℕ)
starts_in size n cells = starts_by (λ cell. cell) size n cells

-- the same of the cells of sheets
abbrev pub count_all : Option ℕ → List CellsData → ℕ
count_all size [] = 0
count_all size (s ∷ sheets) = count_in size s.cells + count_all size sheets

abbrev pub starts_all : Option ℕ → ℕ → List CellsData → List (List ℕ)
starts_all size n [] = []
starts_all size n (s ∷ sheets) =
    starts_in size n s.cells ++ starts_all size (n + count_in size s.cells) sheets

-- a number as a cell of one index
abbrev pub as_cell : ℕ → List ℕ
as_cell n = n ∷ []
