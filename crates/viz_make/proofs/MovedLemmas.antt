-- An image that is read again has the contour's triangles of the one that was written.
use Rattle.std.proofs.Common.{◌≡◌, ℕ, ◌+◌, ◌-◌, ◌*◌, ◌^◌, ◌<◌, Bool, List, map, length, sym, ap, subst, ◌∙◌, arith}
use Rattle.std.specs.List.{All}
use Rattle.viz_extent.specs.Extent.{Bounds, size_x, plane_size, count_of, IsExtent, IsAxis}
use Rattle.viz_dataset.specs.Images.{ImageData, corner, IsImage, IsOrigin}
use Rattle.viz_kuhn.specs.Cubes.{cubes_x, cubes_y, cubes_z}
use Rattle.viz_sheet.specs.Sheet.{SheetData}
use Rattle.viz_grid_section.specs.Edges.{Edge, edge_leaves, edges_of}
use Rattle.viz_grid_section.specs.GridSection.{grid_cells}
use Rattle.viz_grid_section.specs.ImageSection.{contour_cells, insides, ContourIsSection}
use Rattle.viz_grid_section.specs.Steps.Rows.{cells_in_layers}
use Rattle.viz_grid_section.proofs.SectionLemmas.{layers-section}
use Rattle.viz_surface_law.specs.Contours.{contour_of, triangles_of, ContoursAreSurfaces}
use Rattle.viz_surface_law.specs.Surfaces.{by_edges, IsEdgeName, IsSurface}
use Rattle.viz_round_trip.specs.RoundTrip.{from_zero, moved}
use Rattle.viz_make.specs.NarrowVolumes.{middle}

-- ---- the extent

size_again : (lower upper : ℕ) → upper - lower + 1 - 1 - 0 + 1 ≡ upper - lower + 1
size_again lower upper = omega arith

cubes_again : (lower upper : ℕ) → upper - lower + 1 - 1 - 0 ≡ upper - lower
cubes_again lower upper = omega arith

axis_again : (lower upper : ℕ) → IsAxis lower upper → IsAxis 0 (upper - lower + 1 - 1)
axis_again lower upper h = let most = h.limit in record { order = omega arith; limit = omega (arith, most) }

count_again : (b : Bounds) → count_of (from_zero b) ≡ count_of b
count_again b = λ t. size_again b.x0 b.x1 t * size_again b.y0 b.y1 t * size_again b.z0 b.z1 t

extent_again : (b : Bounds) → IsExtent b → IsExtent (from_zero b)
extent_again b h =
    record {
      x = axis_again b.x0 b.x1 h.x;
      y = axis_again b.y0 b.y1 h.y;
      z = axis_again b.z0 b.z1 h.z;
      count = subst (λ (n : ℕ). n < 2 ^ 31) (sym (count_again b)) h.count;
    }

moved_image : (i : ImageData) → IsImage i → IsOrigin (corner i) → IsImage (moved i)
moved_image i h origin =
    record {
      extent = extent_again i.extent h.extent;
      range = h.range;
      count = h.count ∙ sym (count_again i.extent);
      origin = origin;
      spacing = h.spacing;
    }

-- ---- the cells

layers_again : (b : Bounds) (inside : List Bool)
    → cells_in_layers inside (size_x (from_zero b)) (plane_size (from_zero b)) (cubes_x (from_zero b)) (cubes_y (from_zero b)) (cubes_z (from_zero b))
    ≡ cells_in_layers inside (size_x b) (plane_size b) (cubes_x b) (cubes_y b) (cubes_z b)
layers_again b inside = λ t.
    cells_in_layers inside (size_again b.x0 b.x1 t) (size_again b.x0 b.x1 t * size_again b.y0 b.y1 t)
    (cubes_again b.x0 b.x1 t) (cubes_again b.y0 b.y1 t) (cubes_again b.z0 b.z1 t)

-- the cells of a section are those of the extent from 0 on
cells_again : (b : Bounds) (inside : List Bool) → grid_cells (from_zero b) inside ≡ grid_cells b inside
cells_again b inside = sym (layers-section (from_zero b) inside) ∙ layers_again b inside ∙ layers-section b inside

module _ (law : ContourIsSection) (i : ImageData) (valid : IsImage i) (origin : IsOrigin (corner i)) where
  same : contour_cells middle (moved i) ≡ contour_cells middle i
  same = cells_again i.extent (insides middle i.values.items)

  cells_same : (contour_of middle (moved i)).cells ≡ (contour_of middle i).cells
  cells_same =
      ap (λ (s : SheetData). s.cells) (law middle (moved i) (moved_image i valid origin))
      ∙ ap (λ (cells : List (List Edge)). map (map edge_leaves) cells) same
      ∙ sym (ap (λ (s : SheetData). s.cells) (law middle i valid))

  names_same : (contour_of middle (moved i)).names ≡ (contour_of middle i).names
  names_same =
      ap (λ (s : SheetData). s.names) (law middle (moved i) (moved_image i valid origin))
      ∙ ap (λ (cells : List (List Edge)). map edge_leaves (edges_of cells)) same
      ∙ sym (ap (λ (s : SheetData). s.names) (law middle i valid))

  -- its triangles are those of the contour that was written
  pub triangles_again : by_edges (contour_of middle (moved i)).cells ≡ triangles_of middle i
  triangles_again = ap by_edges cells_same

  -- and it is a surface on the same extent
  pub surface_again : ContoursAreSurfaces → IsSurface i.extent (contour_of middle (moved i))
  surface_again surfaces =
      let known = surfaces middle i valid in
      record {
        names = subst (All (IsEdgeName (count_of i.extent))) (sym names_same) known.names;
        triangles = subst (All (λ cell. length cell ≡ 3)) (sym cells_same) known.triangles;
      }
