-- Names of edges, and the points and crossings of them.
use Rattle.std.proofs.Common.{◌≡◌, ℤ, ℕ, List, map, ◌<◌, sym, ap, subst, ◌∙◌}
use Rattle.std.specs.List.{All}
use Rattle.std.proofs.lemmas.List.Elements.{All-map}
use Rattle.std.proofs.lemmas.Simd.{map-map}
use Rattle.viz_extent.specs.Extent.{count_of}
use Rattle.viz_fraction.specs.Points.{Point}
use Rattle.viz_dataset.specs.Images.{ImageData}
use Rattle.viz_grid_section.specs.Edges.{Edge, edge_leaves}
use Rattle.viz_grid_section.specs.ImageSection.{insides, edge_point, IsCutEdge, IsNarrowAt, AreNarrow}
use Rattle.viz_grid_section.proofs.MembersLemmas.{get_or-map_of, length-map_of}
use Rattle.viz_contour.specs.Steps.Named.{edge_named, named_point, AreCutNames, AreNarrowNames}

module _ (level : ℤ) (image : ImageData) (names : List (List ℕ)) (edges : List Edge) (are : names ≡ map edge_leaves edges) where
  pub cut_names : All (IsCutEdge (count_of image.extent) (insides level image.values.items)) edges → AreCutNames level image names
  cut_names each =
      subst (AreCutNames level image) (sym are)
      (record { each = All-map (λ n. IsCutEdge (count_of image.extent) (insides level image.values.items) (edge_named n)) edge_leaves edges each })

  pub narrow_names : AreNarrow level image edges → AreNarrowNames level image names
  narrow_names narrow =
      subst (AreNarrowNames level image) (sym are) (record { each = All-map (λ n. IsNarrowAt level image (edge_named n)) edge_leaves edges narrow.each })

  pub narrow_edges : AreNarrowNames level image names → AreNarrow level image edges
  narrow_edges narrow =
      let made : AreNarrowNames level image (map edge_leaves edges) = subst (AreNarrowNames level image) are narrow in
      record {
        each = λ k d less.
            subst (λ n. IsNarrowAt level image (edge_named n)) (get_or-map_of edge_leaves edges k d (edge_leaves d) less)
            (made.each k (edge_leaves d) (subst (λ n. k < n) (sym (length-map_of edge_leaves edges)) less));
      }

  pub points_of_edges : (points : List Point) → points ≡ map (named_point level image) names → points ≡ map (edge_point level image) edges
  points_of_edges points made =
      made ∙ ap (map (named_point level image)) are ∙ map-map (named_point level image) edge_leaves edges
