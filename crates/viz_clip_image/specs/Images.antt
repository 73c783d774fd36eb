-- The clip of an image, which is taken through its tetrahedra, and how its facets fit together
-- (Kuhn 1960; Dompierre et al. 1999; docs/FORMATS-OF-FILTERS.md, "Clipped volumes").
use Rattle.std.specs.Prelude.{◌≡◌, ◌⊎◌, ◌↔◌, ℕ, ◌<◌, ◌≤◌, ◌||◌, IsTrue, [], ◌∷◌}
use Rattle.std.specs.declared.cmp.Ordering.TheVariants.{Less}
use Rattle.std.specs.List.{flat_map, list_all}
use Rattle.viz_extent.specs.Extent.{Bounds}
use Rattle.viz_fraction.specs.declared.forms.Form.{Form}
use Rattle.viz_dataset.specs.Images.{ImageData}
use Rattle.viz_meaning.specs.Tetrahedra.{tetrahedra_sheet}
use Rattle.viz_clip_meaning.specs.declared.vertex.Vertex.{Vertex}
use Rattle.viz_clip_meaning.specs.Vertices.{leaves_at, vertex_cmp}
use Rattle.viz_clip_meaning.specs.Clip.{clipped_tets}
use Rattle.viz_clip_law.specs.Facets.{IsSimple, is_cut, lying}
use Rattle.viz_surface_law.specs.Facets.{is_on_boundary, sharing}

-- no two tetrahedra of a grid have the same leaves
abbrev pub TetrahedraDiffer : Type 0
TetrahedraDiffer =
    (b : Bounds) (p q r t : ℕ) → p < q → q < r → r < t → sharing b (p ∷ q ∷ r ∷ t ∷ []) ≤ 1

-- the tetrahedra of an image are a simple sheet
abbrev pub ImagesAreSimple : Type 0
ImagesAreSimple = (image : ImageData) → IsSimple (tetrahedra_sheet image)

-- each facet of the clip of an image lies in two of its tetrahedra or in one, and in one just where
-- its vertices are three cuts, or where all their leaves lie at one end of one axis of the grid
abbrev pub ClipsOfImagesFit : Type 0
ClipsOfImagesFit =
    (f : Form) (image : ImageData) (u v w : Vertex)
    → vertex_cmp u v ≡ Less → vertex_cmp v w ≡ Less
    → let facet = u ∷ v ∷ w ∷ [] in
    let leaves = flat_map leaves_at facet in
    let count = lying (clipped_tets f (tetrahedra_sheet image)) facet in
    0 < count
    → ((count ≡ 2) ⊎ (count ≡ 1))
    × ((count ≡ 1) ↔ IsTrue (list_all is_cut facet || is_on_boundary image.extent leaves))
