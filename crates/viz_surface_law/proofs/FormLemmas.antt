-- The cells of an image's section by a form are those of the grid, by which points are inside.
use Rattle.std.proofs.Common.{◌≡◌, ℕ, ◌<◌, Bool, false, List, [], ◌∷◌, ◌++◌, map, length, get_or, slice_index_or, refl, sym, ap, ap₂, ◌∙◌, arith}
use Rattle.std.specs.List.{All, flat_map}
use Rattle.std.proofs.lemmas.List.Elements.{All-head, All-tail}
use Rattle.std.proofs.lemmas.List.Folds.{flat_map-map}
use Rattle.std.proofs.lemmas.List.FromFn.{length-map-range_with_len, get_or-map-range_with_len}
use Rattle.viz_extent.specs.Extent.{count_of}
use Rattle.viz_fraction.specs.declared.forms.Form.{Form}
use Rattle.viz_fraction.specs.Points.{Point}
use Rattle.viz_kuhn.specs.Cubes.{tetrahedra_of}
use Rattle.viz_dataset.specs.Images.{ImageData}
use Rattle.viz_sheet.specs.Ranked.{leaf_names, names_at}
use Rattle.viz_meaning.specs.Section as meaning
use Rattle.viz_meaning.specs.Section.{section_cells, point_of, is_inside_at, zero_point}
use Rattle.viz_meaning.specs.Tetrahedra.{point_of_leaf, leaf_points, tetrahedra_sheet}
use Rattle.viz_grid_section.specs.Edges.{edge_leaves}
use Rattle.viz_grid_section.specs.GridSection.{cells_in, grid_cells}
use Rattle.viz_grid_section.proofs.LeafSheets.{leaf_sheet, IsLeaf, names-leaves, point-leaf_sheet}
use Rattle.viz_grid_section.proofs.MembersLemmas.{Contains-item, Contains-flat_map, get_or-map_of}
use Rattle.viz_grid_section.proofs.NamedCells.{cells-leaves}
use Rattle.viz_grid_section.proofs.TetrahedraLemmas.{are_tetrahedra}
use Rattle.viz_surface_law.specs.FormSections.{insides_of}

-- ---- lists

map-flat_map : {X Y Z : Type 0} (f : Y → Z) (g : X → List Y) (xs : List X)
    → map f (flat_map g xs) ≡ flat_map (λ x. map f (g x)) xs
map-flat_map f g [] = refl
map-flat_map f g (x ∷ xs) =
    split (g x) (flat_map g xs) ∙ ap (λ zs. map f (g x) ++ zs) (map-flat_map f g xs)
  where
    split : (ys zs : List _) → map f (ys ++ zs) ≡ map f ys ++ map f zs
    split [] zs = refl
    split (y ∷ ys) zs = ap (λ rest. f y ∷ rest) (split ys zs)

flat_map-each : {X Y : Type 0} (f g : X → List Y) (xs : List X) → All (λ x. f x ≡ g x) xs
    → flat_map f xs ≡ flat_map g xs
flat_map-each f g [] same = refl
flat_map-each f g (x ∷ xs) same =
    ap₂ (λ ys zs. ys ++ zs) (All-head (λ z. f z ≡ g z) x xs same)
    (flat_map-each f g xs (All-tail (λ z. f z ≡ g z) x xs same))

-- ---- sheets of cells between leaves

module _ (f : Form) (count : ℕ) (at : ℕ → Point) (cells : List (List ℕ)) (flags : List Bool) where
  -- four leaves of cells, whose points are inside as the flags say
  record IsFlagged (leaves : List ℕ) : Type 0 where
    four : length leaves ≡ 4
    within : All (IsLeaf count cells) leaves
    same : All (λ leaf. is_inside_at f (at leaf) ≡ slice_index_or flags leaf false) leaves

  abbrev inside : List ℕ → Bool
  inside n = is_inside_at f (point_of (leaf_sheet count at cells) n)

  -- the cells in one of the cells
  cells-in_one : (leaves : List ℕ) → IsFlagged leaves
      → meaning.cells_in inside (names_at (leaf_names count) leaves)
      ≡ map (map edge_leaves) (cells_in flags leaves)
  cells-in_one leaves is =
      ap (meaning.cells_in inside) (names-leaves count leaves (λ k d less. (is.within k d less).below))
      ∙ cells-leaves inside flags leaves is.four
      (λ k d less.
      ap (is_inside_at f) (point-leaf_sheet count at cells (get_or leaves k d) (is.within k d less))
      ∙ is.same k d less)

  -- the cells in all of them
  cells-in_all : All IsFlagged cells
      → section_cells f (leaf_sheet count at cells)
      ≡ map (map edge_leaves) (flat_map (cells_in flags) cells)
  cells-in_all each =
      let one : List (List ℕ) → List (List (List ℕ)) = meaning.cells_in inside in
      flat_map-map one (names_at (leaf_names count)) cells
      ∙ flat_map-each (λ leaves. one (names_at (leaf_names count) leaves))
      (λ leaves. map (map edge_leaves) (cells_in flags leaves)) cells
      (λ k d less. cells-in_one (get_or cells k d) (each k d less))
      ∙ sym (map-flat_map (map edge_leaves) (cells_in flags) cells)

-- ---- images

-- a point of an image is inside as its form says
inside-leaf : (f : Form) (image : ImageData) (leaf : ℕ) → leaf < count_of image.extent
    → is_inside_at f (point_of_leaf image leaf) ≡ slice_index_or (insides_of f image) leaf false
inside-leaf f image leaf below =
    let count = count_of image.extent in
    let at = point_of_leaf image in
    let size : length (leaf_points image) ≡ count = length-map-range_with_len at 0 count in
    sym (get_or-map_of (is_inside_at f) (leaf_points image) leaf zero_point false (omega (arith, size, below))
    ∙ ap (is_inside_at f) (get_or-map-range_with_len at 0 count leaf leaf zero_point below (omega arith)))

-- a leaf of a tetrahedron
leaf-tetrahedron : (image : ImageData) (k : ℕ) (d : List ℕ) → k < length (tetrahedra_of image.extent)
    → (i e : ℕ) → i < 4
    → IsLeaf (count_of image.extent) (tetrahedra_of image.extent) (get_or (get_or (tetrahedra_of image.extent) k d) i e)
leaf-tetrahedron image k d less i e within =
    let cells = tetrahedra_of image.extent in
    let leaves = get_or cells k d in
    let t = are_tetrahedra image.extent k d less in
    let short : i < length leaves = omega (arith, t.four, within) in
    record {
      below = t.within i e short;
      used =
          Contains-flat_map (λ (cell : List ℕ). cell) cells k d (get_or leaves i e) less
          (Contains-item leaves i e short);
    }

-- each tetrahedron of an image is between flagged leaves
flagged : (f : Form) (image : ImageData)
    → All (IsFlagged f (count_of image.extent) (point_of_leaf image) (tetrahedra_of image.extent) (insides_of f image)) (tetrahedra_of image.extent)
flagged f image k d less =
    let leaves = get_or (tetrahedra_of image.extent) k d in
    let t = are_tetrahedra image.extent k d less in
    record {
      four = t.four;
      within = λ i e short. leaf-tetrahedron image k d less i e (omega (arith, t.four, short));
      same = λ i e short. inside-leaf f image (get_or leaves i e) (t.within i e short);
    }

-- the cells of the section
pub cells-form : (f : Form) (image : ImageData)
    → section_cells f (tetrahedra_sheet image)
    ≡ map (map edge_leaves) (grid_cells image.extent (insides_of f image))
cells-form f image =
    cells-in_all f (count_of image.extent) (point_of_leaf image) (tetrahedra_of image.extent)
    (insides_of f image) (flagged f image)
