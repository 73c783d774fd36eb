-- Rows of numbers, as words or as bytes (VTK User's Guide, "Simple legacy formats";
-- docs/FORMATS-OF-OUTPUT.md, "Written meshes").
use Rattle.std.specs.Prelude.{ℕ, ◌==◌, ℤ, Bool, true, false, List, [], ◌∷◌, ◌++◌, length}
use Rattle.std.specs.Prelude.{if◌then◌else◌}
use Rattle.std.specs.List.{flat_map}
use Rattle.viz_column.specs.declared.kind.Kind8.{Kind8}
use Rattle.viz_column.specs.Bytes.{bytes_of}
use Rattle.viz_image_write.specs.ImageText.{row_text}

-- a row of numbers: their bytes, the highest of each first, or a line
abbrev pub row_of : Bool → Kind8 → List ℤ → List ℕ
row_of true kind numbers = flat_map (bytes_of kind) numbers
row_of false kind numbers = row_text numbers

-- behind the bytes of so many rows, if any, stands a newline
abbrev pub block_end : Bool → ℕ → List ℕ
block_end true n = if n == 0 then [] else 10 ∷ []
block_end false n = []

-- all rows, in order
abbrev pub block_text : Bool → Kind8 → List (List ℤ) → List ℕ
block_text binary kind rows = flat_map (row_of binary kind) rows ++ block_end binary (length rows)
