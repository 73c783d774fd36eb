-- The section of an image's tetrahedra is the contour by edges.
use Rattle.std.proofs.Common.{◌≡◌, ℕ, ◌<◌, Bool, false, ℤ, List, [], ◌∷◌, ◌++◌, map, length, get_or, slice_index, slice_index_or, refl, sym, ap, ap₂, ◌∙◌, arith}
use Rattle.std.specs.List.{All, flat_map}
use Rattle.std.proofs.lemmas.List.Elements.{All-head, All-tail}
use Rattle.std.proofs.lemmas.List.Folds.{flat_map-map}
use Rattle.viz_extent.specs.Extent.{count_of}
use Rattle.viz_fraction.specs.declared.forms.Form.{Form}
use Rattle.viz_fraction.specs.Points.{Point}
use Rattle.viz_fraction.specs.Forms.{contour_form}
use Rattle.viz_fraction.specs.Crossings.{edge_crossing}
use Rattle.viz_kuhn.specs.Cubes.{tetrahedra_of}
use Rattle.viz_dataset.specs.Images.{ImageData, IsImage}
use Rattle.viz_sheet.specs.Ranked.{leaf_names, names_at}
use Rattle.viz_sheet.proofs.UsedLemmas.{seen_is}
use Rattle.viz_meaning.specs.Names.{names_of}
use Rattle.viz_meaning.specs.Section as meaning
use Rattle.viz_meaning.specs.Section.{section_of, section_cells, point_of, is_inside_at, crossing_at}
use Rattle.viz_meaning.specs.Tetrahedra.{point_of_leaf, tetrahedra_sheet}
use Rattle.viz_grid_section.specs.Edges.{Edge, edge_leaves}
use Rattle.viz_grid_section.specs.GridSection.{cells_in}
use Rattle.viz_grid_section.specs.ImageSection.{insides, contour_cells, contour_edges, edge_point, edge_sheet}
use Rattle.viz_grid_section.proofs.CutLemmas.{All-each_once, by_order}
use Rattle.viz_grid_section.proofs.LeafLemmas.{inside-leaf}
use Rattle.viz_grid_section.proofs.LeafSheets.{leaf_sheet, IsLeaf, names-leaves, point-leaf_sheet}
use Rattle.viz_grid_section.proofs.MembersLemmas.{Contains-item, Contains-flat_map, All-in_section}
use Rattle.viz_grid_section.proofs.NamedCells.{map-after, cells-leaves}
use Rattle.viz_grid_section.proofs.NamedSets.{names-edges}
use Rattle.viz_grid_section.proofs.TetrahedraLemmas.{are_tetrahedra}

-- ---- lists

map-flat_map : {X Y Z : Type 0} (f : Y → Z) (g : X → List Y) (xs : List X) → map f (flat_map g xs) ≡ flat_map (λ x. map f (g x)) xs
map-flat_map f g [] = refl
map-flat_map f g (x ∷ xs) = split (g x) (flat_map g xs) ∙ ap (λ zs. map f (g x) ++ zs) (map-flat_map f g xs)
  where
    split : (ys zs : List _) → map f (ys ++ zs) ≡ map f ys ++ map f zs
    split [] zs = refl
    split (y ∷ ys) zs = ap (λ rest. f y ∷ rest) (split ys zs)

flat_map-each : {X Y : Type 0} (f g : X → List Y) (xs : List X) → All (λ x. f x ≡ g x) xs → flat_map f xs ≡ flat_map g xs
flat_map-each f g [] same = refl
flat_map-each f g (x ∷ xs) same =
    ap₂ (λ ys zs. ys ++ zs) (All-head (λ z. f z ≡ g z) x xs same) (flat_map-each f g xs (All-tail (λ z. f z ≡ g z) x xs same))

map-each : {X Y : Type 0} (f g : X → Y) (xs : List X) → All (λ x. f x ≡ g x) xs → map f xs ≡ map g xs
map-each f g [] same = refl
map-each f g (x ∷ xs) same =
    ap₂ (λ y ys. y ∷ ys) (All-head (λ z. f z ≡ g z) x xs same) (map-each f g xs (All-tail (λ z. f z ≡ g z) x xs same))

-- ---- sheets of cells between leaves

-- four leaves of cells, whose points are inside as the flags say
record IsFlagged (f : Form) (count : ℕ) (at : ℕ → Point) (cells : List (List ℕ)) (flags : List Bool) (leaves : List ℕ) : Type 0 where
  four : length leaves ≡ 4
  within : All (IsLeaf count cells) leaves
  same : All (λ leaf. is_inside_at f (at leaf) ≡ slice_index_or flags leaf false) leaves

-- the cells in one of the cells
cells-in_one : (f : Form) (count : ℕ) (at : ℕ → Point) (cells : List (List ℕ)) (flags : List Bool) (leaves : List ℕ) → IsFlagged f count at cells flags leaves
    → meaning.cells_in (λ n. is_inside_at f (point_of (leaf_sheet count at cells) n)) (names_at (leaf_names count) leaves) ≡ map (map edge_leaves) (cells_in flags leaves)
cells-in_one f count at cells flags leaves is =
    let inside : List ℕ → Bool = λ n. is_inside_at f (point_of (leaf_sheet count at cells) n) in
    ap (meaning.cells_in inside) (names-leaves count leaves (λ k d less. (is.within k d less).below))
    ∙ cells-leaves inside flags leaves is.four
    (λ k d less. ap (is_inside_at f) (point-leaf_sheet count at cells (get_or leaves k d) (is.within k d less)) ∙ is.same k d less)

-- the cells in all of them
cells-in_all : (f : Form) (count : ℕ) (at : ℕ → Point) (cells : List (List ℕ)) (flags : List Bool) → All (IsFlagged f count at cells flags) cells
    → section_cells f (leaf_sheet count at cells) ≡ map (map edge_leaves) (flat_map (cells_in flags) cells)
cells-in_all f count at cells flags each =
    let one : List (List ℕ) → List (List (List ℕ)) = meaning.cells_in (λ n. is_inside_at f (point_of (leaf_sheet count at cells) n)) in
    flat_map-map one (names_at (leaf_names count)) cells
    ∙ flat_map-each (λ leaves. one (names_at (leaf_names count) leaves)) (λ leaves. map (map edge_leaves) (cells_in flags leaves)) cells
    (λ k d less. cells-in_one f count at cells flags (get_or cells k d) (each k d less))
    ∙ sym (map-flat_map (map edge_leaves) (cells_in flags) cells)

-- the ends of an edge are leaves of cells
pub record HasLeaves (count : ℕ) (cells : List (List ℕ)) (e : Edge) : Type 0 where
  pub low : IsLeaf count cells e.low
  pub high : IsLeaf count cells e.high

-- the crossing of an edge
crossing-one : (f : Form) (count : ℕ) (at : ℕ → Point) (cells : List (List ℕ)) (e : Edge) → HasLeaves count cells e
    → crossing_at f (leaf_sheet count at cells) (edge_leaves e) ≡ edge_crossing f (at e.low) (at e.high)
crossing-one f count at cells e has =
    ap₂ (edge_crossing f) (point-leaf_sheet count at cells e.low has.low) (point-leaf_sheet count at cells e.high has.high)

crossings-all : (f : Form) (count : ℕ) (at : ℕ → Point) (cells : List (List ℕ)) (edges : List Edge) → All (HasLeaves count cells) edges
    → map (crossing_at f (leaf_sheet count at cells)) (map edge_leaves edges) ≡ map (λ (e : Edge). edge_crossing f (at e.low) (at e.high)) edges
crossings-all f count at cells edges has =
    map-after (crossing_at f (leaf_sheet count at cells)) edge_leaves edges
    ∙ map-each (λ e. crossing_at f (leaf_sheet count at cells) (edge_leaves e)) (λ (e : Edge). edge_crossing f (at e.low) (at e.high)) edges
    (λ k d less. crossing-one f count at cells (get_or edges k d) (has k d less))

-- ---- images

-- a leaf of a tetrahedron
leaf-tetrahedron : (image : ImageData) (k : ℕ) (d : List ℕ) → k < length (tetrahedra_of image.extent) → (i e : ℕ) → i < 4
    → IsLeaf (count_of image.extent) (tetrahedra_of image.extent) (get_or (get_or (tetrahedra_of image.extent) k d) i e)
leaf-tetrahedron image k d less i e within =
    let cells = tetrahedra_of image.extent in
    let leaves = get_or cells k d in
    let t = are_tetrahedra image.extent k d less in
    let short : i < length leaves = omega (arith, t.four, within) in
    record {
      below = t.within i e short;
      used = Contains-flat_map (λ (cell : List ℕ). cell) cells k d (get_or leaves i e) less (Contains-item leaves i e short);
    }

-- each tetrahedron of an image is between flagged leaves
flagged : (level : ℤ) (image : ImageData) → length image.values.items ≡ count_of image.extent
    → All (IsFlagged (contour_form level) (count_of image.extent) (point_of_leaf image) (tetrahedra_of image.extent) (insides level image.values.items)) (tetrahedra_of image.extent)
flagged level image full k d less =
    let leaves = get_or (tetrahedra_of image.extent) k d in
    let t = are_tetrahedra image.extent k d less in
    record {
      four = t.four;
      within = λ i e short. leaf-tetrahedron image k d less i e (omega (arith, t.four, short));
      same = λ i e short. sym (inside-leaf level image (get_or leaves i e) (omega (arith, full, t.within i e short)));
    }

-- the ends of a contour's edges are leaves of tetrahedra
pub edges_have_leaves : (level : ℤ) (image : ImageData) → All (HasLeaves (count_of image.extent) (tetrahedra_of image.extent)) (contour_edges level image)
edges_have_leaves level image =
    let count = count_of image.extent in
    let cells = tetrahedra_of image.extent in
    let P = HasLeaves count cells in
    All-each_once P (flat_map (λ (cell : List Edge). cell) (contour_cells level image))
    (All-in_section P image.extent (insides level image.values.items) (λ k d less i j order within apart.
    let leaves = get_or cells k d in
    let Q : ℕ → ℕ → Type 0 = λ m n. IsLeaf count cells m × IsLeaf count cells n in
    let a = leaf-tetrahedron image k d less i 0 (omega (arith, order, within)) in
    let b = leaf-tetrahedron image k d less j 0 within in
    let both = by_order Q (slice_index leaves i) (slice_index leaves j) (a, b) (b, a) in
    record { low = both.0; high = both.1 }))

-- the cells of the section, and its names
pub cells-section : (level : ℤ) (image : ImageData) → length image.values.items ≡ count_of image.extent
    → section_cells (contour_form level) (tetrahedra_sheet image) ≡ map (map edge_leaves) (contour_cells level image)
cells-section level image full =
    cells-in_all (contour_form level) (count_of image.extent) (point_of_leaf image) (tetrahedra_of image.extent) (insides level image.values.items) (flagged level image full)

pub names-section : (level : ℤ) (image : ImageData) → length image.values.items ≡ count_of image.extent
    → names_of (section_cells (contour_form level) (tetrahedra_sheet image)) ≡ map edge_leaves (contour_edges level image)
names-section level image full = ap names_of (cells-section level image full) ∙ names-edges (contour_cells level image)

-- the section of an image's tetrahedra is the contour by edges
pub contour_is_section : (level : ℤ) (image : ImageData) → IsImage image → section_of (contour_form level) (tetrahedra_sheet image) ≡ edge_sheet level image
contour_is_section level image rule =
    let f = contour_form level in
    let s = tetrahedra_sheet image in
    let edges = contour_edges level image in
    seen_is (section_of f s) (map edge_leaves edges) (map (edge_point level image) edges) (map (map edge_leaves) (contour_cells level image))
    (names-section level image rule.count)
    (ap (map (crossing_at f s)) (names-section level image rule.count)
    ∙ crossings-all f (count_of image.extent) (point_of_leaf image) (tetrahedra_of image.extent) edges (edges_have_leaves level image))
    (cells-section level image rule.count)
