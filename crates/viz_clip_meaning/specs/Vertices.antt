-- Vertices of a clipped volume: corners of its cells, and cuts of their edges
-- (docs/FORMATS-OF-FILTERS.md, "Clipped volumes").
use Rattle.std.specs.Prelude.{ℕ, min, max, List, [], ◌∷◌}
use Rattle.std.specs.declared.cmp.Ordering.{Ordering}
use Rattle.std.specs.Cmp.Lexicographic.{slice_cmp}
use Rattle.std.specs.Ordering.{nat_cmp}
use Rattle.viz_clip_meaning.specs.declared.vertex.Vertex.{Vertex}
use Rattle.viz_clip_meaning.specs.declared.vertex.Vertex.TheVariants.{Corner, Cut}

-- what a vertex is compared by: corners come first, by leaf, and then cuts, by their lesser and
-- then by their greater leaf
abbrev pub place_of : Vertex → List ℕ
place_of (Corner a) = 0 ∷ a ∷ []
place_of (Cut a b) = 1 ∷ a ∷ b ∷ []

-- the order of vertices
abbrev pub vertex_cmp : Vertex → Vertex → Ordering
vertex_cmp v w = slice_cmp nat_cmp (place_of v) (place_of w)

-- the cut of the edge between two leaves
abbrev pub cut : ℕ → ℕ → Vertex
cut a b = Cut (min a b) (max a b)

-- the leaves of a vertex
abbrev pub leaves_at : Vertex → List ℕ
leaves_at (Corner a) = a ∷ []
leaves_at (Cut a b) = a ∷ b ∷ []
