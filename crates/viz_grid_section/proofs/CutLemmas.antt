-- The edges of a contour have one end inside.
use Rattle.std.proofs.Common.{◌≢◌, ℕ, ◌<◌, ◌≤◌, min, max, false, ℤ, List, get_or, slice_index, slice_index_or, sym, subst, arith}
use Rattle.std.proofs.Common.{inl, inr}
use Rattle.std.specs.Prelude.{◌⊎◌}
use Rattle.std.specs.List.{All, flat_map}
use Rattle.std.proofs.Math.Nat.{min-eq_left, min-eq_right, max-eq_left, max-eq_right}
use Rattle.viz_extent.specs.Extent.{count_of}
use Rattle.viz_kuhn.specs.Cubes.{tetrahedra_of}
use Rattle.viz_dataset.specs.Images.{ImageData}
use Rattle.viz_grid_section.specs.Edges.{Edge, edge_of, each_once}
use Rattle.viz_grid_section.specs.ImageSection.{insides, contour_cells, contour_edges, IsCutEdge}
use Rattle.viz_grid_section.proofs.EdgeSets.{of-each_once}
use Rattle.viz_grid_section.proofs.MembersLemmas.{Contains-item, All-in_section}
use Rattle.viz_grid_section.proofs.TetrahedraLemmas.{are_tetrahedra}

-- what holds of edges holds of them each once
pub All-each_once : (P : Edge → Type 0) (ns : List Edge) → All P ns → All P (each_once ns)
All-each_once P ns each k d less =
    let n = get_or (each_once ns) k d in
    let has = of-each_once ns n (Contains-item (each_once ns) k d less) in
    subst P has.2 (each has.0 n has.1)

-- what holds of two numbers either way holds of the lesser and the greater
pub by_order : (P : ℕ → ℕ → Type 0) (a b : ℕ) → P a b → P b a → P (min a b) (max a b)
by_order P a b there back = cases (compare a b)
  where
    compare : (a b : ℕ) → (a ≤ b) ⊎ (b ≤ a)
    compare a b = grind arith

    cases : (a ≤ b) ⊎ (b ≤ a) → P (min a b) (max a b)
    cases (inl le) = subst (λ n. P n (max a b)) (sym (min-eq_left le)) (subst (λ n. P a n) (sym (max-eq_right le)) there)
    cases (inr le) = subst (λ n. P n (max a b)) (sym (min-eq_right le)) (subst (λ n. P b n) (sym (max-eq_left le)) back)

-- a cut edge of the grid, by the leaves of its ends
cut_edge : (level : ℤ) (image : ImageData) (a b : ℕ) → a < count_of image.extent → b < count_of image.extent
    → slice_index_or (insides level image.values.items) a false ≢ slice_index_or (insides level image.values.items) b false
    → IsCutEdge (count_of image.extent) (insides level image.values.items) (edge_of a b)
cut_edge level image a b within_a within_b apart =
    let P : ℕ → ℕ → Type 0 = λ m n. (m < count_of image.extent) × (n < count_of image.extent) × (slice_index_or (insides level image.values.items) m false ≢ slice_index_or (insides level image.values.items) n false) in
    let parts = by_order P a b
    (within_a, within_b, apart)
    (within_b, within_a, λ same. apart (sym same)) in
    record { low = parts.0; high = parts.1; apart = parts.2 }

-- the edges of a contour are cut
pub edges_are_cut : (level : ℤ) (image : ImageData)
    → All (IsCutEdge (count_of image.extent) (insides level image.values.items)) (contour_edges level image)
edges_are_cut level image =
    let P = IsCutEdge (count_of image.extent) (insides level image.values.items) in
    All-each_once P (flat_map (λ (cell : List Edge). cell) (contour_cells level image))
    (All-in_section P image.extent (insides level image.values.items) (λ k d less i j order within apart.
    let t = are_tetrahedra image.extent k d less in
    let leaves = get_or (tetrahedra_of image.extent) k d in
    cut_edge level image (slice_index leaves i) (slice_index leaves j)
    (t.within i 0 (omega (arith, t.four))) (t.within j 0 (omega (arith, t.four))) apart))
