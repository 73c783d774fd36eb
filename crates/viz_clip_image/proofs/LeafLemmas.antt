-- The cells of an image's sheet have the leaves of the tetrahedra of its grid.
use Rattle.std.proofs.Common.{◌≡◌, ℕ, ◌<◌, List, [], ◌∷◌, map, get_or, cond, nat_eq, refl, ap, ◌∙◌}
use Rattle.std.specs.List.{All, flat_map, list_all, list_any}
use Rattle.viz_extent.specs.Extent.{Bounds, count_of}
use Rattle.viz_kuhn.specs.Cubes.{tetrahedra_of}
use Rattle.viz_dataset.specs.Images.{ImageData}
use Rattle.viz_sheet.specs.Ranked.{leaf_names, names_at}
use Rattle.viz_meaning.specs.Tetrahedra.{tetrahedra_sheet}
use Rattle.viz_grid_section.proofs.LeafSheets.{names-leaves}
use Rattle.viz_grid_section.proofs.TetrahedraLemmas.{are_tetrahedra}
use Rattle.viz_clip_law.specs.Facets.{has_leaves}
use Rattle.viz_clip_law.specs.Facets as sheets
use Rattle.viz_surface_law.specs.Facets.{has_facet}
use Rattle.viz_surface_law.specs.Facets as grids
use Rattle.viz_surface_law.proofs.Sharing.ListCounts.{sum_by-map, sum_by-same}

flat-names : (leaves : List ℕ) → flat_map (λ (n : List ℕ). n) (map (λ leaf. leaf ∷ []) leaves) ≡ leaves
flat-names [] = refl
flat-names (leaf ∷ leaves) = ap (λ rest. leaf ∷ rest) (flat-names leaves)

-- the leaves of a tetrahedron by names are its own
pub cell-leaves : (b : Bounds) (tet : List ℕ) → All (λ leaf. leaf < count_of b) tet → flat_map (λ (n : List ℕ). n) (names_at (leaf_names (count_of b)) tet) ≡ tet
cell-leaves b tet within = ap (flat_map (λ (n : List ℕ). n)) (names-leaves (count_of b) tet within) ∙ flat-names tet

-- as many cells of the sheet have some leaves as tetrahedra of the grid
pub sharing-grid : (image : ImageData) (leaves : List ℕ) → sheets.sharing (tetrahedra_sheet image) leaves ≡ grids.sharing image.extent leaves
sharing-grid image leaves =
    let b = image.extent in
    let named = names_at (leaf_names (count_of b)) in
    sum_by-map (λ cell. cond {A = ℕ} (has_leaves leaves cell) 1 0) named (tetrahedra_of b)
    ∙ sum_by-same (λ tet. cond {A = ℕ} (has_leaves leaves (named tet)) 1 0) (λ tet. cond {A = ℕ} (has_facet leaves tet) 1 0) (tetrahedra_of b)
    (λ k d less.
    ap (λ own. cond {A = ℕ} (list_all (λ leaf. list_any (nat_eq leaf) own) leaves) 1 0)
    (cell-leaves b (get_or (tetrahedra_of b) k d) (are_tetrahedra b k d less).within))
