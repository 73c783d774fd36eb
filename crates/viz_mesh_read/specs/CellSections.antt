-- The cells of a section in either form of the format (VTK User's Guide, "Simple legacy formats", and
-- VTK's documentation, "VTK File Formats", legacy files of version 5.1; docs/FORMATS-OF-FILES.md,
-- "Grids and polydata").
use Rattle.std.specs.Prelude.{ℕ, Bool, List, length}
use Rattle.viz_lex.specs.Rules.{Rule, gives, choose, ◌>>=◌}
use Rattle.viz_counted_cells.specs.Sections.{section, numbers_of_cells}
use Rattle.viz_offset_cells.specs.Offsets.{offset_section}

-- a section behind its keyword, in a file of so many points: its cells are counted runs, and from
-- version 5.1 on the runs of one list of indices between neighbouring offsets
abbrev pub cell_section : Bool → Bool → ℕ → Rule (List (List ℕ))
cell_section later binary points = choose later (offset_section binary points)
    (section binary points)

-- the cells of a section by their numbers: of each its count and its indices
abbrev pub numbers_of_section : List (List ℕ) → ℕ × List ℕ
numbers_of_section cells = (length cells, numbers_of_cells cells)

-- a section by the numbers of its cells
abbrev pub cell_section_numbers : Bool → Bool → ℕ → Rule (ℕ × List ℕ)
cell_section_numbers later binary points = do
  all ← cell_section later binary points
  gives (numbers_of_section all)
