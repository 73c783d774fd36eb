-- A mesh as it is read again (docs/FORMATS-OF-OUTPUT.md, "Written meshes").
use Rattle.std.specs.Prelude.{ℕ, ◌^◌, ◌≤◌, pos, ◌*ℤ◌, List, [], ◌∷◌, ◌++◌, length, map}
use Rattle.std.specs.Prelude.{All, Some, if◌then◌else◌}
use Rattle.std.specs.List.{flat_map}
use Rattle.viz_fraction.specs.Points.{Point, numbers, reduced}
use Rattle.viz_fraction.specs.Decimals.{fixed_of}
use Rattle.viz_column.specs.declared.kind.Kind8.TheVariants.{I64}
use Rattle.viz_column.specs.Numbers.{Numbers}
use Rattle.viz_sheet.specs.Sheet.{SheetData, IsSheet}
use Rattle.viz_sheet.specs.Ranked.{leaf_names, by_names}
use Rattle.viz_mesh_read.specs.declared.coordinates.FilePoints.{FilePoints}
use Rattle.viz_file_mesh.specs.FileMesh.{mesh_of}
use Rattle.viz_mesh_write.specs.Cells.{points_of, cells_of, of_size, has_tetrahedra}
use Rattle.viz_mesh_write.specs.MeshText.{coordinates, scalar}
use Rattle.viz_mesh_write.specs.Fits.{FitCounts, FitNumbers}

-- sheets that may be written at so many places
pub record AreWritable (digits : ℕ) (sheets : List SheetData) : Type 0 where
  pub known : All IsSheet sheets
  pub counts : FitCounts sheets
  pub numbers : FitNumbers digits sheets
  pub few : digits ≤ 9

-- points as a file has them: three whole numbers for each
abbrev pub points_in_file : ℕ → List Point → FilePoints
points_in_file digits points =
    record {
      count = length points;
      coordinates = record { kind = I64; items = flat_map (coordinates digits) points };
    }

-- their scalars as a file has them
abbrev pub scalars_in_file : List Point → Numbers
scalars_in_file points = record { kind = I64; items = map scalar points }

-- the cells of polydata in the order of a file: vertices, lines and triangles
abbrev pub by_kinds : List (List ℕ) → List (List ℕ)
by_kinds cells = of_size 1 cells ++ (of_size 2 cells ++ of_size 3 cells)

-- cells in the order of a file: those of a grid as they are, and else by their kinds
abbrev pub in_order : List (List ℕ) → List (List ℕ)
in_order cells = if has_tetrahedra cells then cells else by_kinds cells

-- the mesh of what is written, by the rule of files
abbrev pub read_of : ℕ → List SheetData → List SheetData
read_of digits sheets =
    mesh_of digits (points_in_file digits (points_of sheets))
    (Some (scalars_in_file (points_of sheets))) (in_order (cells_of sheets))

-- a point as it is written: each coordinate rounded down at so many places, and the scalar rounded
-- down
abbrev pub rounded : ℕ → Point → Point
rounded digits p =
    reduced (numbers (fixed_of p.x p.w digits) (fixed_of p.y p.w digits) (fixed_of p.z p.w digits)
    (scalar p *ℤ pos (10 ^ digits)) (pos (10 ^ digits)))

-- the same, point by point and cell by cell: one sheet, whose leaves are the indices that were
-- written
abbrev pub written_again : ℕ → List SheetData → List SheetData
written_again digits sheets =
    record {
      names = leaf_names (length (points_of sheets));
      points = map (rounded digits) (points_of sheets);
      cells = by_names (leaf_names (length (points_of sheets))) (in_order (cells_of sheets));
    } ∷ []

-- a mesh without points
abbrev pub empty_mesh : List SheetData
empty_mesh = record { names = []; points = []; cells = [] } ∷ []
