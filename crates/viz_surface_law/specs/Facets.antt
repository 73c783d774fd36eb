-- Facets of the tetrahedra of a grid: in how many tetrahedra one lies, and which lie on the
-- boundary (Kuhn 1960).
use Rattle.std.specs.Prelude.{◌≡◌, ◌⊎◌, ◌↔◌, ℕ, ◌+◌, ◌/◌, ◌%◌, ◌<◌, ◌==◌, ◌||◌, Bool, IsTrue, List}
use Rattle.std.specs.Prelude.{[], ◌∷◌, nat_eq, count_by}
use Rattle.std.specs.List.{list_any, list_all}
use Rattle.viz_extent.specs.Extent.{Bounds, size_x, size_y}
use Rattle.viz_kuhn.specs.Cubes.{tetrahedra_of}

-- where the point of a leaf lies along x
abbrev pub x_of : Bounds → ℕ → ℕ
x_of b leaf = b.x0 + leaf % size_x b

-- where it lies along y
abbrev pub y_of : Bounds → ℕ → ℕ
y_of b leaf = b.y0 + leaf / size_x b % size_y b

-- where it lies along z
abbrev pub z_of : Bounds → ℕ → ℕ
z_of b leaf = b.z0 + leaf / size_x b / size_y b

-- whether all points have the same index along an axis, a given one
abbrev pub all_at : (ℕ → ℕ) → ℕ → List ℕ → Bool
all_at along index leaves = list_all (λ leaf. along leaf == index) leaves

-- whether all points lie at the lower end of an axis, or all at its upper end
abbrev pub lies_at_end : (ℕ → ℕ) → ℕ → ℕ → List ℕ → Bool
lies_at_end along lower upper leaves = all_at along lower leaves || all_at along upper leaves

-- whether a facet lies on the boundary of the grid: its points all lie at one end of one axis
abbrev pub is_on_boundary : Bounds → List ℕ → Bool
is_on_boundary b leaves =
    lies_at_end (x_of b) b.x0 b.x1 leaves || (lies_at_end (y_of b) b.y0 b.y1 leaves
    || lies_at_end (z_of b) b.z0 b.z1 leaves)

-- whether a tetrahedron has all leaves of a facet
abbrev pub has_facet : List ℕ → List ℕ → Bool
has_facet facet tetrahedron = list_all (λ leaf. list_any (nat_eq leaf) tetrahedron) facet

-- in how many tetrahedra of the grid a facet lies
abbrev pub sharing : Bounds → List ℕ → ℕ
sharing b facet = count_by (has_facet facet) (tetrahedra_of b)

-- a facet of a tetrahedron, its leaves in ascending order, lies in two, or in one, and in one just
-- where it lies on the boundary
abbrev pub FacetsAreShared : Type 0
FacetsAreShared =
    (b : Bounds) (p q r : ℕ) → p < q → q < r
    → let facet = p ∷ q ∷ r ∷ [] in
    0 < sharing b facet
    → ((sharing b facet ≡ 2) ⊎ (sharing b facet ≡ 1))
    × ((sharing b facet ≡ 1) ↔ IsTrue (is_on_boundary b facet))
