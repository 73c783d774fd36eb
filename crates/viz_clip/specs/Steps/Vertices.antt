-- How a clipped volume is kept: the leaves of its corners, those of its cuts, and tetrahedra by the
-- ranks of both together.
use Rattle.std.specs.Prelude.{◌≡◌, ℕ, ◌+◌, ◌<◌, ◌^◌, List, [], ◌∷◌, ◌++◌, length, map, slice_index_or}
use Rattle.std.specs.List.Sorted.{IsStrictlySortedBy}
use Rattle.viz_fraction.specs.Points.{Point}
use Rattle.viz_sheet.specs.Ranked.{AreRanks, leaf_names}
use Rattle.viz_cells.specs.Steps.Keys.{high_of, low_of}
use Rattle.viz_clip_meaning.specs.declared.vertex.Vertex.{Vertex}
use Rattle.viz_clip_meaning.specs.declared.vertex.Vertex.TheVariants.{Corner, Cut}
use Rattle.viz_clip_meaning.specs.Vertices.{vertex_cmp}

-- the leaf of the name of a rank
abbrev pub leaf_at : List (List ℕ) → ℕ → ℕ
leaf_at names r = slice_index_or (slice_index_or names r []) 0 0

-- the leaves of both ends of a key
abbrev pub cut_leaves : List (List ℕ) → ℕ → List ℕ
cut_leaves names key = leaf_at names (low_of key) ∷ leaf_at names (high_of key) ∷ []

-- the cut of two leaves
abbrev pub cut_of : List ℕ → Vertex
cut_of leaves = Cut (slice_index_or leaves 0 0) (slice_index_or leaves 1 0)

-- the vertices: corners, and then cuts
abbrev pub vertices_in : List ℕ → List (List ℕ) → List Vertex
vertices_in corners cuts = map Corner corners ++ map cut_of cuts

-- tetrahedra by the ranks of their vertices
abbrev pub tets_at : List Vertex → List (List ℕ) → List (List Vertex)
tets_at vertices tets = map (map (λ r. slice_index_or vertices r (Corner 0))) tets

-- the rule: vertices ascend, few, with a point for each, and each has a tetrahedron
pub record IsKept (corners : List ℕ) (cuts : List (List ℕ)) (points : List Point)
    (tets : List (List ℕ)) : Type 0 where
  pub ascending : IsStrictlySortedBy vertex_cmp (vertices_in corners cuts)
  pub few : length corners + length cuts < 2 ^ 32
  pub ranks : AreRanks (leaf_names (length corners + length cuts)) points tets
