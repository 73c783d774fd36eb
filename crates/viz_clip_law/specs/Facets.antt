-- Facets of the tetrahedra of a clipped volume, and how they fit together (Dompierre et al. 1999;
-- docs/FORMATS-OF-FILTERS.md, "Clipped volumes").
use Rattle.std.specs.Prelude.{◌≡◌, ◌⊎◌, ◌↔◌, ℕ, ◌<◌, ◌≤◌, Bool, true, false, IsTrue, List, [], ◌∷◌}
use Rattle.std.specs.Prelude.{All, Contains, count_by, length, nat_eq}
use Rattle.std.specs.declared.cmp.Ordering.TheVariants.{Less}
use Rattle.std.specs.List.{flat_map, list_all, list_any}
use Rattle.std.specs.Ordering.{is_eq}
use Rattle.viz_fraction.specs.declared.forms.Form.{Form}
use Rattle.viz_sheet.specs.PairNames.{AreNames}
use Rattle.viz_sheet.specs.Sheet.{IsSheet, SheetData}
use Rattle.viz_clip_meaning.specs.declared.vertex.Vertex.{Vertex}
use Rattle.viz_clip_meaning.specs.declared.vertex.Vertex.TheVariants.{Corner, Cut}
use Rattle.viz_clip_meaning.specs.Vertices.{leaves_at, vertex_cmp}
use Rattle.viz_clip_meaning.specs.Clip.{AreTetrahedra, clipped_tets}

-- whether a tetrahedron has all vertices of a facet
abbrev pub has_facet : List Vertex → List Vertex → Bool
has_facet facet tet = list_all (λ v. list_any (λ w. is_eq (vertex_cmp v w)) tet) facet

-- in how many tetrahedra a facet lies
abbrev pub lying : List (List Vertex) → List Vertex → ℕ
lying tets facet = count_by (has_facet facet) tets

-- whether a cell has all of these leaves
abbrev pub has_leaves : List ℕ → List (List ℕ) → Bool
has_leaves leaves cell = list_all (λ leaf. list_any (nat_eq leaf) (flat_map (λ n. n) cell)) leaves

-- how many cells of a sheet have them
abbrev pub sharing : SheetData → List ℕ → ℕ
sharing s leaves = count_by (has_leaves leaves) s.cells

-- no two cells have the same names, and no facet lies in more than two
pub record IsSimple (s : SheetData) : Type 0 where
  pub once : (p q r t : ℕ) → p < q → q < r → r < t → sharing s (p ∷ q ∷ r ∷ t ∷ []) ≤ 1
  pub twice : (p q r : ℕ) → p < q → q < r → sharing s (p ∷ q ∷ r ∷ []) ≤ 2

-- whether a vertex is a cut
abbrev pub is_cut : Vertex → Bool
is_cut (Corner a) = false
is_cut (Cut a b) = true

-- all leaves of a facet belong to one facet of the sheet, which lies in one cell alone
pub record LiesInLone (s : SheetData) (facet : List Vertex) : Type 0 where
  pub p : ℕ
  pub q : ℕ
  pub r : ℕ
  pub pq : p < q
  pub qr : q < r
  pub lone : sharing s (p ∷ q ∷ r ∷ []) ≡ 1
  pub leaves : All (λ v. All (Contains (p ∷ q ∷ r ∷ [])) (leaves_at v)) facet

-- each facet of a clip lies in two of its tetrahedra or in one, and in one just where its vertices
-- are three cuts, or where it lies in a facet of the sheet that lies in one cell alone
abbrev pub FacetsLieInTwo : Type 0
FacetsLieInTwo =
    (f : Form) (s : SheetData) (u v w : Vertex) → IsSheet s → AreNames 1 s.names → AreTetrahedra s
    → IsSimple s → vertex_cmp u v ≡ Less → vertex_cmp v w ≡ Less
    → let facet = u ∷ v ∷ w ∷ [] in
    let count = lying (clipped_tets f s) facet in
    0 < count
    → ((count ≡ 2) ⊎ (count ≡ 1))
    × ((count ≡ 1) ↔ (IsTrue (list_all is_cut facet) ⊎ LiesInLone s facet))
