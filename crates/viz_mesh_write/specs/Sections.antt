-- Sections of cells, of version 3.0 and of version 5.1 (VTK's documentation, "VTK File Formats";
-- docs/FORMATS-OF-OUTPUT.md, "Written meshes").
use Rattle.std.specs.Prelude.{ℕ, ◌+◌, ℤ, pos, Bool, true, false, List, [], ◌∷◌, ◌++◌, length, map}
use Rattle.std.specs.Prelude.{codes}
use Rattle.std.specs.List.{flat_map}
use Rattle.std.specs.Fmt.{decimal}
use Rattle.viz_column.specs.declared.kind.Kind8.TheVariants.{I32, I64}
use Rattle.viz_mesh_write.specs.Rows.{block_text}

-- a keyword and two counts, on a line
unfoldable pub section_line : List ℕ → ℕ → ℕ → List ℕ
section_line keyword n size = keyword ++ 32 ∷ decimal n ++ 32 ∷ decimal size ++ 10 ∷ []

-- the numbers of a cell: how many indices, and these
abbrev pub cell_numbers : List ℕ → List ℤ
cell_numbers cell = map (λ n. pos n) (length cell ∷ cell)

-- how many numbers cells have
abbrev pub size_of : List (List ℕ) → ℕ
size_of cells = length (flat_map cell_numbers cells)

-- a section of version 3.0: how many cells and numbers, and a row for each cell
unfoldable pub counted_section : Bool → List ℕ → List (List ℕ) → List ℕ
counted_section binary keyword cells = section_line keyword (length cells) (size_of cells)
    ++ block_text binary I32 (map cell_numbers cells)

-- the indices of a cell
abbrev pub indices_of : List ℕ → List ℤ
indices_of cell = map (λ n. pos n) cell

-- how many indices cells have
abbrev pub index_count : List (List ℕ) → ℕ
index_count [] = 0
index_count (cell ∷ cells) = length cell + index_count cells

-- with so many indices in front: at which index each cell begins, and behind the last one how many
-- indices there are
abbrev pub offsets_from : ℕ → List (List ℕ) → List ℕ
offsets_from n [] = n ∷ []
offsets_from n (cell ∷ cells) = n ∷ offsets_from (n + length cell) cells

-- the offsets of cells: at which index each begins, and behind the last one how many there are
abbrev pub offsets_of : List (List ℕ) → List ℕ
offsets_of cells = offsets_from 0 cells

-- an offset alone
abbrev pub offset_row : ℕ → List ℤ
offset_row n = pos n ∷ []

-- the line in front of offsets
unfoldable pub offsets_line : List ℕ
offsets_line = codes "OFFSETS vtktypeint64\n"

-- the offsets, a row for each
unfoldable pub offsets_text : Bool → List (List ℕ) → List ℕ
offsets_text binary cells = offsets_line
    ++ block_text binary I64 (map offset_row (offsets_of cells))

-- the line in front of indices
unfoldable pub connectivity_line : List ℕ
connectivity_line = codes "CONNECTIVITY vtktypeint64\n"

-- the indices, a row for each cell
unfoldable pub connectivity_text : Bool → List (List ℕ) → List ℕ
connectivity_text binary cells = connectivity_line ++ block_text binary I64 (map indices_of cells)

-- a section of version 5.1: how many offsets and indices, the offsets and the indices
unfoldable pub offset_section : Bool → List ℕ → List (List ℕ) → List ℕ
offset_section binary keyword cells = section_line keyword (length cells + 1) (index_count cells)
    ++ offsets_text binary cells ++ connectivity_text binary cells

-- a section of a file of version 5.1, or of version 3.0
abbrev pub section_text : Bool → Bool → List ℕ → List (List ℕ) → List ℕ
section_text true = offset_section
section_text false = counted_section
