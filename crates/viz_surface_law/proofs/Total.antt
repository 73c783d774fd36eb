-- How often triangles of a section run through a side: over all cubes, their facets' cuts and their diagonals.
use Rattle.viz_surface_law.proofs.Sharing.GridFacets.{lowest_in, StandsAt}
use Rattle.std.proofs.Common.{◌≡◌, ℕ, ◌+◌, min, max, Bool, true, false, cond, ◌&&◌, List, [], ◌∷◌, get_or, refl, sym, ap, ◌∙◌, arith}
use Rattle.std.specs.Prelude.{count_by, sum_by}
use Rattle.std.specs.List.{flat_map}
use Rattle.viz_extent.specs.Extent.{Bounds}
use Rattle.viz_kuhn.specs.Corners.{Corner, corner}
use Rattle.viz_kuhn.specs.Kuhn.{Row, rows}
use Rattle.viz_kuhn.specs.Places.{Place, place_of}
use Rattle.viz_kuhn.specs.Cubes.{all_lowest, leaves_of, six_at, tetrahedra_of}
use Rattle.viz_grid_section.specs.Edges.{Edge, edge_of}
use Rattle.viz_grid_section.specs.GridSection.{cells_in, grid_cells}
use Rattle.viz_surface_law.specs.Sides.{Side, side, sides_of, same_side}
use Rattle.viz_surface_law.proofs.Local.{cut, cut_back, diagonal, local_law}
use Rattle.viz_surface_law.proofs.Sharing.ListCounts.{count_by-flat_map, sum_by-flat_map, sum_by-map, sum_by-same, sum_by-plus}
use Rattle.viz_surface_law.proofs.Sharing.CubeSums.{same_place, has_at, cubes_at}
use Rattle.viz_surface_law.proofs.Sharing.FacetTable.{Facet, facets_of, all_facets, same_shape, Each, Each_at}
use Rattle.viz_surface_law.proofs.Cuts.{cut_of, cut_count, is_at}
use Rattle.viz_surface_law.proofs.Sharing.GridFacets.{Chain, chains, In, facet_at, leaf_at, ascends, same_facets}

-- ---- the cubes of the list

-- ---- one tetrahedron

-- the diagonal in a tetrahedron, both ways, or nothing
abbrev pub diag_of : List Bool → List ℕ → List Side
diag_of inside (a ∷ b ∷ c ∷ d ∷ []) =
    diagonal (is_at inside a) (is_at inside b) (is_at inside c) (is_at inside d) (side (edge_of a c) (edge_of b d)) (side (edge_of a b) (edge_of c d))
diag_of inside _ = []

name_comm : (a b : ℕ) → edge_of a b ≡ edge_of b a
name_comm a b =
    let l : min a b ≡ min b a = grind arith in
    let h : max a b ≡ max b a = grind arith in
    λ i. record { low = l i; high = h i }

cut-last : (w x y : Bool) (m n o : Edge) → cut w y x n m o ≡ cut_back w x y m n o
cut-last true true true m n o = refl
cut-last true true false m n o = refl
cut-last true false true m n o = refl
cut-last true false false m n o = refl
cut-last false true true m n o = refl
cut-last false true false m n o = refl
cut-last false false true m n o = refl
cut-last false false false m n o = refl

cut-first : (w x y : Bool) (m n o : Edge) → cut_back x w y m o n ≡ cut w x y m n o
cut-first true true true m n o = refl
cut-first true true false m n o = refl
cut-first true false true m n o = refl
cut-first true false false m n o = refl
cut-first false true true m n o = refl
cut-first false true false m n o = refl
cut-first false false true m n o = refl
cut-first false false false m n o = refl

even_law : (P : Side → Bool) (inside : List Bool) (a b c d : ℕ)
    → let p = is_at inside in
    let n = edge_of in
    count_by P (flat_map sides_of (cells_in inside (a ∷ b ∷ c ∷ d ∷ [])))
    ≡ count_by P (cut (p a) (p b) (p c) (n a b) (n a c) (n b c))
    + count_by P (cut_back (p a) (p b) (p d) (n a b) (n a d) (n b d))
    + count_by P (cut (p a) (p c) (p d) (n a c) (n a d) (n c d))
    + count_by P (cut_back (p b) (p c) (p d) (n b c) (n b d) (n c d))
    + count_by P (diag_of inside (a ∷ b ∷ c ∷ d ∷ []))
even_law P inside a b c d = local_law (is_at inside a) (is_at inside b) (is_at inside c) (is_at inside d) P a b c d

odd_law : (P : Side → Bool) (inside : List Bool) (a b c d : ℕ)
    → let p = is_at inside in
    let n = edge_of in
    count_by P (flat_map sides_of (cells_in inside (a ∷ c ∷ b ∷ d ∷ [])))
    ≡ count_by P (cut_back (p a) (p b) (p c) (n a b) (n a c) (n b c))
    + count_by P (cut (p a) (p b) (p d) (n a b) (n a d) (n b d))
    + count_by P (cut_back (p a) (p c) (p d) (n a c) (n a d) (n c d))
    + count_by P (cut (p b) (p c) (p d) (n b c) (n b d) (n c d))
    + count_by P (diag_of inside (a ∷ c ∷ b ∷ d ∷ []))
odd_law P inside a b c d =
    let p = is_at inside in
    let n = edge_of in
    let first = ap (λ m. count_by P (cut (p a) (p c) (p b) (n a c) (n a b) m)) (name_comm c b) ∙ ap (count_by P) (cut-last (p a) (p b) (p c) (n a b) (n a c) (n b c)) in
    let last = ap (λ m. count_by P (cut_back (p c) (p b) (p d) m (n c d) (n b d))) (name_comm c b) ∙ ap (count_by P) (cut-first (p b) (p c) (p d) (n b c) (n b d) (n c d)) in
    omega (arith, even_law P inside a c b d, first, last)

-- the sides of a row's cells
abbrev RowLaw : Row → Type 0
RowLaw r = (P : Side → Bool) (inside : List Bool) (b : Bounds) (x : Place)
    → count_by P (flat_map sides_of (cells_in inside (leaves_of b x r.corners)))
    ≡ sum_by (λ f. count_by P (cut_of inside (facet_at b x f))) (facets_of r) + count_by P (diag_of inside (leaves_of b x r.corners))

row_laws : Each RowLaw rows
unfolding rows
row_laws = (
  λ P inside b x. omega (arith, even_law P inside (leaf_at b x (corner 0 0 0)) (leaf_at b x (corner 1 0 0)) (leaf_at b x (corner 1 1 0)) (leaf_at b x (corner 1 1 1))),
  (
    λ P inside b x. omega (arith, odd_law P inside (leaf_at b x (corner 0 0 0)) (leaf_at b x (corner 1 0 0)) (leaf_at b x (corner 1 0 1)) (leaf_at b x (corner 1 1 1))),
    (
      λ P inside b x. omega (arith, odd_law P inside (leaf_at b x (corner 0 0 0)) (leaf_at b x (corner 0 1 0)) (leaf_at b x (corner 1 1 0)) (leaf_at b x (corner 1 1 1))),
      (
        λ P inside b x. omega (arith, even_law P inside (leaf_at b x (corner 0 0 0)) (leaf_at b x (corner 0 1 0)) (leaf_at b x (corner 0 1 1)) (leaf_at b x (corner 1 1 1))),
        (
          λ P inside b x. omega (arith, even_law P inside (leaf_at b x (corner 0 0 0)) (leaf_at b x (corner 0 0 1)) (leaf_at b x (corner 1 0 1)) (leaf_at b x (corner 1 1 1))),
          (
            λ P inside b x. omega (arith, odd_law P inside (leaf_at b x (corner 0 0 0)) (leaf_at b x (corner 0 0 1)) (leaf_at b x (corner 0 1 1)) (leaf_at b x (corner 1 1 1))),
            tt,
          ),
        ),
      ),
    ),
  ),
)

-- ---- all tetrahedra

-- how many cuts of a cube's facets pass a test
abbrev pub cuts_in : (Side → Bool) → List Bool → Bounds → Place → ℕ
cuts_in P inside b x = sum_by (λ f. count_by P (cut_of inside (facet_at b x f))) all_facets

-- how many diagonals in a cube do, each taken both ways
abbrev pub diags_in : (Side → Bool) → List Bool → Bounds → Place → ℕ
diags_in P inside b x = sum_by (λ (r : Row). count_by P (diag_of inside (leaves_of b x r.corners))) rows

sides_in_six : (P : Side → Bool) (inside : List Bool) (b : Bounds) (x : Place)
    → sum_by (λ t. count_by P (flat_map sides_of (cells_in inside t))) (six_at b x) ≡ cuts_in P inside b x + diags_in P inside b x
sides_in_six P inside b x =
    let each = λ (r : Row). sum_by (λ f. count_by P (cut_of inside (facet_at b x f))) (facets_of r) in
    let diag = λ (r : Row). count_by P (diag_of inside (leaves_of b x r.corners)) in
    sum_by-map (λ t. count_by P (flat_map sides_of (cells_in inside t))) (λ (r : Row). leaves_of b x r.corners) rows
    ∙ sum_by-same _ (λ r. each r + diag r) rows (λ k d less. Each_at RowLaw rows row_laws k d less P inside b x)
    ∙ sum_by-plus each diag rows
    ∙ ap (λ n. n + diags_in P inside b x) (sym (sum_by-flat_map (λ f. count_by P (cut_of inside (facet_at b x f))) facets_of rows))

pub total : (P : Side → Bool) (inside : List Bool) (b : Bounds)
    → count_by P (flat_map sides_of (grid_cells b inside))
    ≡ sum_by (λ x. cuts_in P inside b x) (all_lowest b) + sum_by (λ x. diags_in P inside b x) (all_lowest b)
total P inside b =
    let each : List Edge → ℕ = λ cell. count_by P (sides_of cell) in
    count_by-flat_map P sides_of (grid_cells b inside)
    ∙ sum_by-flat_map each (cells_in inside) (tetrahedra_of b)
    ∙ sum_by-flat_map (λ t. sum_by each (cells_in inside t)) (six_at b) (all_lowest b)
    ∙ sum_by-same (λ x. sum_by (λ t. sum_by each (cells_in inside t)) (six_at b x)) (λ x. cuts_in P inside b x + diags_in P inside b x) (all_lowest b)
    (λ k d less.
    let x = get_or (all_lowest b) k d in
    sum_by-same (λ t. sum_by each (cells_in inside t)) (λ t. count_by P (flat_map sides_of (cells_in inside t))) (six_at b x)
    (λ m e within. sym (count_by-flat_map P sides_of (cells_in inside (get_or (six_at b x) m e))))
    ∙ sides_in_six P inside b x)
    ∙ sum_by-plus (λ x. cuts_in P inside b x) (λ x. diags_in P inside b x) (all_lowest b)

-- ---- a facet's side

cuts_in_cube : (inside : List Bool) (b : Bounds) (x y : Place) (g : Facet) (o : Corner) (s : Side)
    → In b x → In b y → Chain g → StandsAt g o → cut_of inside (facet_at b y g) ≡ s ∷ []
    → cuts_in (same_side s) inside b x ≡ cond (same_place (place_of x o) (place_of y g.a)) 1 0
cuts_in_cube inside b x y g o s ix iy cg stands is =
    sum_by-same (λ f. count_by (same_side s) (cut_of inside (facet_at b x f))) (λ f. cond (same_shape f g && same_place (place_of x f.a) (place_of y g.a)) 1 0) all_facets
    (λ k d less.
    let f = get_or all_facets k d in
    let cf = chains k d less in
    cut_count inside (facet_at b x f) (facet_at b y g) s (ascends b x f ix cf) (ascends b y g iy cg) is
    ∙ ap (λ t. cond t 1 0) (same_facets b x y f g ix iy cf cg))
    ∙ stands (λ c. same_place (place_of x c) (place_of y g.a))

-- a side that is the cut of a facet is as often a cut as there are cubes for it
pub cuts_of_facet : (inside : List Bool) (b : Bounds) (y : Place) (g : Facet) (o : Corner) (s : Side)
    → In b y → Chain g → StandsAt g o → cut_of inside (facet_at b y g) ≡ s ∷ []
    → sum_by (λ x. cuts_in (same_side s) inside b x) (all_lowest b) ≡ cond (has_at b o (place_of y g.a)) 1 0
cuts_of_facet inside b y g o s iy cg stands is =
    sum_by-same (λ x. cuts_in (same_side s) inside b x) (λ x. cond (same_place (place_of x o) (place_of y g.a)) 1 0) (all_lowest b)
    (λ k d less. cuts_in_cube inside b (get_or (all_lowest b) k d) y g o s (lowest_in b k d less) iy cg stands is)
    ∙ cubes_at b o (place_of y g.a)
