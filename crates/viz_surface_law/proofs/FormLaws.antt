-- The section of an image by a form is a surface, and the section by edges that the law speaks of.
use Rattle.std.proofs.Common.{◌≡◌, ◌≢◌, ◌+◌, ℕ, ◌<◌, ◌≤◌, min, max, Bool, true, false, List, [], ◌∷◌, ◌++◌, map, length, get_or, slice_index, slice_index_or, refl, sym, ap, subst, ◌∙◌, arith}
use Rattle.std.proofs.Common.{inl, inr}
use Rattle.std.specs.Prelude.{◌⊎◌}
use Rattle.std.specs.List.{All, flat_map}
use Rattle.std.proofs.Math.Nat.{min-eq_left, min-eq_right, max-eq_left, max-eq_right}
use Rattle.std.proofs.lemmas.Bool.{cases_lt}
use Rattle.std.proofs.lemmas.List.Elements.{All-nil, All-cons, All-head, All-tail}
use Rattle.viz_extent.specs.Extent.{Bounds, count_of}
use Rattle.viz_kuhn.specs.Kuhn.{Row, rows}
use Rattle.viz_kuhn.specs.Places.{Place}
use Rattle.viz_kuhn.specs.Cubes.{all_lowest, leaves_of, six_at, tetrahedra_of}
use Rattle.viz_fraction.specs.Cases.{cells_at}
use Rattle.viz_meaning.specs.Names.{names_of}
use Rattle.viz_grid_section.specs.Edges.{Edge, edge_leaves, edge_of, edges_of}
use Rattle.viz_grid_section.specs.GridSection.{cells_in, grid_cells}
use Rattle.viz_grid_section.proofs.CutLemmas.{All-each_once}
use Rattle.viz_grid_section.proofs.MembersLemmas.{length-map_of, All-in_section}
use Rattle.viz_grid_section.proofs.NamedSets.{names-edges}
use Rattle.viz_grid_section.proofs.TetrahedraLemmas.{are_tetrahedra}
use Rattle.viz_surface_law.proofs.Sharing.FacetTable.{Each}
use Rattle.viz_surface_law.specs.Closed.{IsClosedUpToBoundary}
use Rattle.viz_surface_law.specs.Audit.{count_sides, count_two, count_lone, count_border}
use Rattle.viz_surface_law.specs.Surfaces.{edge_named, by_edges, IsEdgeName}
use Rattle.viz_surface_law.specs.FormSections.{insides_of, FormSectionsAreOfGrid, FormSectionsAreSurfaces, FormSectionsAreClosed, FormSidesAddUp, LoneFormSidesAreBorders}
use Rattle.viz_surface_law.proofs.Local.{cells_by}
use Rattle.viz_surface_law.proofs.Cuts.{is_at}
use Rattle.viz_surface_law.proofs.Law.{closed}
use Rattle.viz_surface_law.proofs.AuditLaw.{audits_agree}
use Rattle.viz_surface_law.proofs.FormLemmas.{cells-form}

-- ---- lists

Each-append : {X : Type 0} (P : X → Type 0) (xs ys : List X) → Each P xs → Each P ys → Each P (xs ++ ys)
Each-append P [] ys a b = b
Each-append P (x ∷ xs) ys a b = (a.0, Each-append P xs ys a.1 b)

Each-flat_map : {X A : Type 0} (P : A → Type 0) (f : X → List A) (xs : List X) → Each (λ x. Each P (f x)) xs → Each P (flat_map f xs)
Each-flat_map P f [] all = tt
Each-flat_map P f (x ∷ xs) all = Each-append P (f x) (flat_map f xs) all.0 (Each-flat_map P f xs all.1)

Each-map : {X A : Type 0} (P : A → Type 0) (f : X → A) (xs : List X) → Each (λ x. P (f x)) xs → Each P (map f xs)
Each-map P f [] all = tt
Each-map P f (x ∷ xs) all = (all.0, Each-map P f xs all.1)

Each-any : {X : Type 0} (P : X → Type 0) (xs : List X) → ((x : X) → P x) → Each P xs
Each-any P [] all = tt
Each-any P (x ∷ xs) all = (all x, Each-any P xs all)

-- ---- three names each

abbrev Threes : List (List Edge) → Type 0
Threes cells = Each (λ cell. length cell ≡ 3) cells

three_each : (w x y z : Bool) (leaves : List ℕ) → Threes (cells_by w x y z leaves)
unfolding cells_at
three_each true true true true leaves = tt
three_each true true true false leaves = (refl, tt)
three_each true true false true leaves = (refl, tt)
three_each true true false false leaves = (refl, (refl, tt))
three_each true false true true leaves = (refl, tt)
three_each true false true false leaves = (refl, (refl, tt))
three_each true false false true leaves = (refl, (refl, tt))
three_each true false false false leaves = (refl, tt)
three_each false true true true leaves = (refl, tt)
three_each false true true false leaves = (refl, (refl, tt))
three_each false true false true leaves = (refl, (refl, tt))
three_each false true false false leaves = (refl, tt)
three_each false false true true leaves = (refl, (refl, tt))
three_each false false true false leaves = (refl, tt)
three_each false false false true leaves = (refl, tt)
three_each false false false false leaves = tt

in_four : (inside : List Bool) (a b c d : ℕ) → Threes (cells_in inside (a ∷ b ∷ c ∷ d ∷ []))
in_four inside a b c d = three_each (is_at inside a) (is_at inside b) (is_at inside c) (is_at inside d) (a ∷ b ∷ c ∷ d ∷ [])

in_rows : (inside : List Bool) (b : Bounds) (x : Place) → Each (λ (r : Row). Threes (cells_in inside (leaves_of b x r.corners))) rows
unfolding rows
in_rows inside b x =
    (in_four inside _ _ _ _, (in_four inside _ _ _ _, (in_four inside _ _ _ _, (in_four inside _ _ _ _, (in_four inside _ _ _ _, (in_four inside _ _ _ _, tt))))))

threes : (inside : List Bool) (b : Bounds) → Threes (grid_cells b inside)
threes inside b =
    Each-flat_map (λ cell. length cell ≡ 3) (cells_in inside) (tetrahedra_of b)
    (Each-flat_map (λ t. Threes (cells_in inside t)) (six_at b) (all_lowest b)
    (Each-any (λ x. Each (λ t. Threes (cells_in inside t)) (six_at b x)) (all_lowest b)
    (λ x. Each-map (λ t. Threes (cells_in inside t)) (λ (r : Row). leaves_of b x r.corners) rows (in_rows inside b x))))

-- ---- a surface

-- the name of an edge by its leaves
name_of : (count a b : ℕ) → a < count → b < count → a < b → IsEdgeName count (a ∷ b ∷ [])
name_of count a b within_a within_b less =
    let P : ℕ → Type 0 = λ leaf. leaf < count in
    record {
      two = refl;
      below = All-cons P a (b ∷ []) within_a (All-cons P b [] within_b (All-nil P));
      apart = less;
    }

-- either way
edge_name : (count a b : ℕ) → a < count → b < count → a ≢ b → IsEdgeName count (edge_leaves (edge_of a b))
edge_name count a b within_a within_b differ = cases (cases_lt a b) (cases_lt b a)
  where
    named : ℕ → ℕ → Type 0
    named m n = IsEdgeName count (m ∷ n ∷ [])

    cases : (a < b) ⊎ (b ≤ a) → (b < a) ⊎ (a ≤ b) → named (min a b) (max a b)
    cases (inl less) other =
        let le : a ≤ b = omega (arith, less) in
        subst (λ n. named n (max a b)) (sym (min-eq_left le))
        (subst (λ n. named a n) (sym (max-eq_right le)) (name_of count a b within_a within_b less))
    cases (inr most) (inl less) =
        subst (λ n. named n (max a b)) (sym (min-eq_right most))
        (subst (λ n. named b n) (sym (max-eq_left most)) (name_of count b a within_b within_a less))
    cases (inr most) (inr least) = let same : a ≡ b = omega (arith, most, least) in absurd (differ same)

-- the edges of a grid's section are between two of its points
edges_named : (b : Bounds) (inside : List Bool)
    → All (λ e. IsEdgeName (count_of b) (edge_leaves e)) (edges_of (grid_cells b inside))
edges_named b inside =
    let P : Edge → Type 0 = λ e. IsEdgeName (count_of b) (edge_leaves e) in
    All-each_once P (flat_map (λ (cell : List Edge). cell) (grid_cells b inside))
    (All-in_section P b inside (λ k d less i j order within apart.
    let t = are_tetrahedra b k d less in
    let leaves = get_or (tetrahedra_of b) k d in
    edge_name (count_of b) (slice_index leaves i) (slice_index leaves j)
    (t.within i 0 (omega (arith, t.four, order, within))) (t.within j 0 (omega (arith, t.four, within)))
    (λ same. apart (ap (λ n. slice_index_or inside n false) same))))

edge_names : (count : ℕ) (es : List Edge) → All (λ e. IsEdgeName count (edge_leaves e)) es
    → All (IsEdgeName count) (map edge_leaves es)
edge_names count [] named = All-nil (IsEdgeName count)
edge_names count (e ∷ es) named =
    let P : Edge → Type 0 = λ d. IsEdgeName count (edge_leaves d) in
    All-cons (IsEdgeName count) (edge_leaves e) (map edge_leaves es) (All-head P e es named)
    (edge_names count es (All-tail P e es named))

three_names : (cells : List (List Edge)) → Threes cells
    → All (λ (c : List (List ℕ)). length c ≡ 3) (map (map edge_leaves) cells)
three_names [] three = All-nil (λ (c : List (List ℕ)). length c ≡ 3)
three_names (cell ∷ rest) three =
    All-cons (λ (c : List (List ℕ)). length c ≡ 3) (map edge_leaves cell)
    (map (map edge_leaves) rest) (length-map_of edge_leaves cell ∙ three.0) (three_names rest three.1)

pub sections_are_surfaces : FormSectionsAreSurfaces
sections_are_surfaces f image =
    let cells = grid_cells image.extent (insides_of f image) in
    let same = cells-form f image in
    record {
      names =
          subst (All (IsEdgeName (count_of image.extent))) (sym (ap names_of same ∙ names-edges cells))
          (edge_names (count_of image.extent) (edges_of cells) (edges_named image.extent (insides_of f image)));
      triangles =
          subst (All (λ (c : List (List ℕ)). length c ≡ 3)) (sym same)
          (three_names cells (threes (insides_of f image) image.extent));
    }

-- ---- the law

cell_again : (cell : List Edge) → map edge_named (map edge_leaves cell) ≡ cell
cell_again [] = refl
cell_again (e ∷ es) = ap (λ rest. e ∷ rest) (cell_again es)

cells_again : (cells : List (List Edge)) → by_edges (map (map edge_leaves) cells) ≡ cells
cells_again [] = refl
cells_again (cell ∷ rest) =
    let first = cell_again cell in
    let others = cells_again rest in
    λ t. first t ∷ others t

pub sections_are_of_grid : FormSectionsAreOfGrid
sections_are_of_grid f image =
    ap by_edges (cells-form f image) ∙ cells_again (grid_cells image.extent (insides_of f image))

pub sections_are_closed : FormSectionsAreClosed
sections_are_closed f image =
    subst (IsClosedUpToBoundary image.extent) (sym (sections_are_of_grid f image))
    (closed image.extent (insides_of f image))

pub sides_add_up : FormSidesAddUp
sides_add_up f image =
    subst (λ cells. count_sides cells ≡ count_two cells + count_border image.extent cells)
    (sym (sections_are_of_grid f image)) (audits_agree image.extent (insides_of f image)).0

pub lone_sides_are_borders : LoneFormSidesAreBorders
lone_sides_are_borders f image =
    subst (λ cells. count_lone cells ≡ count_border image.extent cells)
    (sym (sections_are_of_grid f image)) (audits_agree image.extent (insides_of f image)).1
