-- Edges by their names, as the code lists them: words of private contracts alone.
use Rattle.std.specs.Prelude.{ℕ, ℤ, List, All, slice_index_or}
use Rattle.viz_extent.specs.Extent.{count_of}
use Rattle.viz_fraction.specs.Points.{Point}
use Rattle.viz_dataset.specs.Images.{ImageData}
use Rattle.viz_grid_section.specs.Edges.{Edge}
use Rattle.viz_grid_section.specs.ImageSection.{insides, edge_point, IsCutEdge, IsNarrowAt}

-- the edge of a name of two leaves
abbrev pub edge_named : List ℕ → Edge
edge_named n = record { low = slice_index_or n 0 0; high = slice_index_or n 1 0 }

-- the point of a name: the crossing on its edge
abbrev pub named_point : ℤ → ImageData → List ℕ → Point
named_point level image n = edge_point level image (edge_named n)

-- the names are those of cut edges
pub record AreCutNames (level : ℤ) (image : ImageData) (names : List (List ℕ)) : Type 0 where
  pub each : All (λ n. IsCutEdge (count_of image.extent) (insides level image.values.items)
      (edge_named n)) names

-- no crossing on their edges is wide
pub record AreNarrowNames (level : ℤ) (image : ImageData) (names : List (List ℕ)) : Type 0 where
  pub each : All (λ n. IsNarrowAt level image (edge_named n)) names
