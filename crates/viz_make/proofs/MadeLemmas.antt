-- The contour of a made volume, and its counts.
use Rattle.std.proofs.Common.{◌≡◌, ℕ, ◌+◌, List, [], ◌∷◌, length, map, get_or, sym, ap, ap₂, subst, ◌∙◌}
use Rattle.std.proofs.lemmas.List.{length-map}
use Rattle.viz_dataset.specs.Images.{ImageData, IsImage}
use Rattle.viz_dataset.specs.declared.dataset.Dataset.{Dataset}
use Rattle.viz_dataset.specs.declared.dataset.Dataset.TheVariants.{Mesh}
use Rattle.viz_grid_section.specs.Edges.{Edge}
use Rattle.viz_grid_section.specs.ImageSection.{ContourIsSection}
use Rattle.viz_sheet.specs.Sheet.{SheetData}
use Rattle.viz_surface_law.specs.declared.audits.Counts.{Counts}
use Rattle.viz_surface_law.specs.Surfaces.{IsSurface, by_edges, edge_named}
use Rattle.viz_surface_law.specs.Audit.{count_sides, count_two, count_lone, count_border}
use Rattle.viz_surface_law.specs.Contours.{triangles_of, ContoursAreSurfaces, ContourSidesAddUp, LoneSidesAreBorders}
use Rattle.viz_make.specs.NarrowVolumes.{middle}
use Rattle.viz_make.specs.Make.{Make, contour_of, image_of}
use Rattle.viz_make.specs.Steps.Contouring.{IsWritable, contour_again}
use Rattle.viz_make.proofs.MovedLemmas.{surface_again, triangles_again}

-- the first sheet of a mesh of one sheet
pub first_is : (d : Dataset) (mesh sheets : List SheetData) (one sheet : SheetData) → d ≡ Mesh mesh → d ≡ Mesh (one ∷ []) → sheets ≡ mesh
    → sheet ≡ get_or sheets 0 sheet → sheet ≡ one
first_is d mesh sheets one sheet in_mesh is seen item =
    let both : Mesh mesh ≡ Mesh (one ∷ []) = sym in_mesh ∙ is in
    let same : mesh ≡ one ∷ [] = cc in
    item ∙ ap (λ (l : List SheetData). get_or l 0 sheet) (seen ∙ same)

module _ (section : ContourIsSection) (c : Make) (h : IsWritable c) (s : SheetData) (is : s ≡ contour_again c) where
  -- the contour of the volume that is read again is a surface
  pub surface : ContoursAreSurfaces → IsSurface c.extent s
  surface surfaces = subst (IsSurface c.extent) (sym is) (surface_again section (image_of c) h.image h.origin surfaces)

  -- its triangles are those of the contour of the volume
  triangles : by_edges s.cells ≡ contour_of c
  triangles = ap (λ (x : SheetData). by_edges x.cells) is ∙ triangles_again section (image_of c) h.image h.origin

  -- so what is counted of the one is counted of the other
  pub counted : (n : ℕ) (count : List (List Edge) → ℕ) → n ≡ count (by_edges s.cells) → n ≡ count (contour_of c)
  counted n count seen = seen ∙ ap count triangles

  -- and there are as many
  pub cells : length s.cells ≡ length (contour_of c)
  cells = sym (length-map s.cells (map edge_named)) ∙ ap length triangles

-- counts that add up
pub closed : ContourSidesAddUp → LoneSidesAreBorders → (image : ImageData) (c : Counts) → IsImage image
    → c.sides ≡ count_sides (triangles_of middle image) → c.two ≡ count_two (triangles_of middle image) → c.lone ≡ count_lone (triangles_of middle image)
    → c.border ≡ count_border image.extent (triangles_of middle image) → (c.sides ≡ c.two + c.border) × (c.lone ≡ c.border)
closed sum lone image c valid sides two alone border = (
  sides ∙ sum middle image valid ∙ sym (ap₂ (λ m n. m + n) two border),
  alone ∙ lone middle image valid ∙ sym border,
)
