-- How a sheet is kept: an array for each number of leaves, size of cells, and width of points.
use Rattle.std.specs.Prelude.{ℕ, List}
use Rattle.viz_fraction.specs.Points.{Point}
use Rattle.viz_sheet.specs.declared.leaves.Leaves.{Leaves}
use Rattle.viz_sheet.specs.declared.leaves.Leaves.TheVariants.{One, Two, Four, Eight}
use Rattle.viz_sheet.specs.declared.ranks.Ranks.{Ranks}
use Rattle.viz_sheet.specs.declared.ranks.Ranks.TheVariants.{Vertices, Lines, Triangles}
use Rattle.viz_sheet.specs.declared.ranks.Ranks.TheVariants.{Tetrahedra, Any}
use Rattle.viz_sheet.specs.declared.places.Places.{Places}
use Rattle.viz_sheet.specs.declared.places.Places.TheVariants.{Small, Wide}

-- names by their leaves
abbrev pub names_in : Leaves → List (List ℕ)
names_in (One v) = v.items
names_in (Two v) = v.items
names_in (Four v) = v.items
names_in (Eight v) = v.items

-- points
abbrev pub points_in : Places → List Point
points_in (Small v) = v.items
points_in (Wide v) = v.items

-- cells by ranks
abbrev pub ranks_in : Ranks → List (List ℕ)
ranks_in (Vertices v) = v.items
ranks_in (Lines v) = v.items
ranks_in (Triangles v) = v.items
ranks_in (Tetrahedra v) = v.items
ranks_in (Any v) = v.items
