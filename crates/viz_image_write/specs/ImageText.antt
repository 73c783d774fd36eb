-- The text of a written image (VTK User's Guide, "Simple legacy formats";
-- docs/FORMATS-OF-OUTPUT.md, "Written files").
use Rattle.std.specs.Prelude.{ℕ, ℤ, zero, suc, ◌*◌, Bool, true, false, List, [], ◌∷◌, ◌++◌}
use Rattle.std.specs.Prelude.{take, drop, codes}
use Rattle.std.specs.List.{flat_map}
use Rattle.std.specs.Fmt.{decimal, signed_decimal}
use Rattle.viz_extent.specs.Extent.{size_x, size_y, size_z, count_of}
use Rattle.viz_column.specs.declared.kind.Kind8.{Kind8}
use Rattle.viz_column.specs.declared.kind.Kind8.TheVariants.{I8, U8, I16, U16, I32, U32, I64, U64}
use Rattle.viz_column.specs.Numbers.{Numbers}
use Rattle.viz_column.specs.Bytes.{block_of}
use Rattle.viz_lex.specs.Written.{decimal_text}
use Rattle.viz_dataset.specs.Images.{ImageData, Vector, corner}
use Rattle.viz_image_write.specs.Version.{version_line}

-- the version and the title
unfoldable pub title_lines : Bool → List ℕ
title_lines later = version_line later ++ codes "vizrun image\n"

-- whether the values are bytes or words
unfoldable pub form_line : Bool → List ℕ
form_line true = codes "BINARY\n"
form_line false = codes "ASCII\n"

-- the kind of dataset
unfoldable pub dataset_line : List ℕ
dataset_line = codes "DATASET STRUCTURED_POINTS\n"

-- a size behind a space
abbrev pub spaced_size : ℕ → List ℕ
spaced_size n = 32 ∷ decimal n

-- the sizes along x, y and z, on a line
unfoldable pub dimensions_line : ℕ → ℕ → ℕ → List ℕ
dimensions_line x y z = codes "DIMENSIONS" ++ flat_map spaced_size (x ∷ y ∷ z ∷ []) ++ 10 ∷ []

-- a decimal behind a space
abbrev pub spaced_decimal : ℤ → List ℕ
spaced_decimal n = 32 ∷ decimal_text n

-- a word and three decimals, on a line
unfoldable pub vector_line : List ℕ → Vector → List ℕ
vector_line word v = word ++ flat_map spaced_decimal (v.x ∷ v.y ∷ v.z ∷ []) ++ 10 ∷ []

-- the position of the lowest corner, on a line
unfoldable pub origin_line : Vector → List ℕ
origin_line v = vector_line (codes "ORIGIN") v

-- the steps between points, on a line
unfoldable pub spacing_line : Vector → List ℕ
spacing_line v = vector_line (codes "SPACING") v

-- the lines that say where the points are
unfoldable pub geometry_lines : ImageData → List ℕ
geometry_lines i = dimensions_line (size_x i.extent) (size_y i.extent) (size_z i.extent)
    ++ origin_line (corner i) ++ spacing_line i.spacing

-- the number of points, on a line
unfoldable pub point_data_line : ℕ → List ℕ
point_data_line n = codes "POINT_DATA " ++ decimal n ++ 10 ∷ []

-- the word of a type
abbrev pub type_word : Kind8 → List ℕ
type_word I8 = codes "char"
type_word U8 = codes "unsigned_char"
type_word I16 = codes "short"
type_word U16 = codes "unsigned_short"
type_word I32 = codes "int"
type_word U32 = codes "unsigned_int"
type_word I64 = codes "long"
type_word U64 = codes "unsigned_long"

-- the name, the type and the number of components
unfoldable pub array_line : Kind8 → List ℕ
array_line kind = codes "SCALARS scalars " ++ type_word kind ++ codes " 1\n"

-- the name of the colour table
unfoldable pub table_line : List ℕ
table_line = codes "LOOKUP_TABLE default\n"

-- the lines in front of the values
unfoldable pub header_lines : Bool → Bool → ImageData → List ℕ
header_lines later binary i =
    title_lines later ++ form_line binary ++ dataset_line ++ geometry_lines i
    ++ point_data_line (count_of i.extent) ++ array_line i.values.kind ++ table_line

-- a number behind a space
abbrev pub spaced_number : ℤ → List ℕ
spaced_number n = 32 ∷ signed_decimal n

-- one row of values: numbers separated by one space, and a newline
abbrev pub row_text : List ℤ → List ℕ
row_text [] = 10 ∷ []
row_text (n ∷ ns) = signed_decimal n ++ flat_map spaced_number ns ++ 10 ∷ []

-- so many rows of so many values, one line each
abbrev pub rows_text : ℕ → ℕ → List ℤ → List ℕ
rows_text zero width values = []
rows_text (suc rows) width values = row_text (take width values)
    ++ rows_text rows width (drop width values)

-- the values: their bytes and a newline, or a line for each row
abbrev pub values_text : Bool → ℕ → ℕ → Numbers → List ℕ
values_text true rows width values = block_of values ++ 10 ∷ []
values_text false rows width values = rows_text rows width values.items

-- the whole text of an image: each row along x is one line; by the version its first line differs
-- alone
unfoldable pub image_text : Bool → Bool → ImageData → List ℕ
image_text later binary i = header_lines later binary i ++ values_text binary
    (size_y i.extent * size_z i.extent) (size_x i.extent) i.values
