-- One cube, counted by hand: facets on its diagonal lie in two tetrahedra, those on its sides in one; with one corner inside it has
-- six triangles round a point, six sides between two of them, six on the boundary.
use Rattle.std.proofs.Common.{◌≡◌, Bool, true, false, List, [], ◌∷◌, length, refl}
use Rattle.viz_extent.specs.Extent.{Bounds, bounds_of}
use Rattle.viz_kuhn.specs.Kuhn.{rows}
use Rattle.viz_fraction.specs.Cases.{cells_at}
use Rattle.viz_grid_section.specs.GridSection.{grid_cells}
use Rattle.viz_surface_law.specs.Facets.{sharing, is_on_boundary}
use Rattle.viz_surface_law.specs.Audit.{count_sides, count_two, count_lone, count_border}

abbrev cube : Bounds
cube = bounds_of (0 ∷ 1 ∷ 0 ∷ 1 ∷ 0 ∷ 1 ∷ [])

inner_facet : sharing cube (0 ∷ 1 ∷ 7 ∷ []) ≡ 2
unfolding rows
inner_facet = refl

outer_facet : sharing cube (0 ∷ 1 ∷ 3 ∷ []) ≡ 1
unfolding rows
outer_facet = refl

no_facet : sharing cube (1 ∷ 2 ∷ 7 ∷ []) ≡ 0
unfolding rows
no_facet = refl

outer_lies : is_on_boundary cube (0 ∷ 1 ∷ 3 ∷ []) ≡ true
outer_lies = refl

inner_does_not : is_on_boundary cube (0 ∷ 1 ∷ 7 ∷ []) ≡ false
inner_does_not = refl

abbrev corner_inside : List Bool
corner_inside = true ∷ false ∷ false ∷ false ∷ false ∷ false ∷ false ∷ false ∷ []

six_triangles : length (grid_cells cube corner_inside) ≡ 6
unfolding rows cells_at
six_triangles = refl

twelve_sides : count_sides (grid_cells cube corner_inside) ≡ 12
unfolding rows cells_at
twelve_sides = refl

six_inner : count_two (grid_cells cube corner_inside) ≡ 6
unfolding rows cells_at
six_inner = refl

six_lone : count_lone (grid_cells cube corner_inside) ≡ 6
unfolding rows cells_at
six_lone = refl

six_border : count_border cube (grid_cells cube corner_inside) ≡ 6
unfolding rows cells_at
six_border = refl
