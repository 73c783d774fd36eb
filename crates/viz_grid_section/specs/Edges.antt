-- Edges between the points of a grid: unordered pairs of leaves, lesser first, ascending
-- (docs/FORMATS-OF-FILTERS.md, "Names of a section").
use Rattle.std.specs.Prelude.{ℕ, ◌&&◌, ◌||◌, ◌==◌, Bool, min, max, nat_lt, List, [], ◌∷◌, IsTrue}
use Rattle.std.specs.Prelude.{count_by, if◌then◌else◌}
use Rattle.std.specs.List.{flat_map}

-- an edge by its leaves, the lesser one first
pub record Edge : Type 0 where
  pub low : ℕ
  pub high : ℕ

-- the edge between two leaves
abbrev pub edge_of : ℕ → ℕ → Edge
edge_of a b = record { low = min a b; high = max a b }

-- its name: both leaves
abbrev pub edge_leaves : Edge → List ℕ
edge_leaves e = e.low ∷ e.high ∷ []

-- an edge comes before another: by its lesser leaf, and then by its greater one
abbrev pub is_before : Edge → Edge → Bool
is_before m n = nat_lt m.low n.low || (m.low == n.low && nat_lt m.high n.high)

-- an edge among others that ascend, once
abbrev pub with_edge : Edge → List Edge → List Edge
with_edge n [] = n ∷ []
with_edge n (m ∷ ms) = if is_before n m then n ∷ m ∷ ms else if is_before m n
    then m ∷ with_edge n ms else m ∷ ms

-- the edges, each once, ascending
abbrev pub each_once : List Edge → List Edge
each_once [] = []
each_once (n ∷ ns) = with_edge n (each_once ns)

-- the edges of all cells, each once, ascending
abbrev pub edges_of : List (List Edge) → List Edge
edges_of cells = each_once (flat_map (λ cell. cell) cells)

-- how many of the edges come before one: its rank
abbrev pub rank_of : List Edge → Edge → ℕ
rank_of edges n = count_by (λ m. is_before m n) edges

-- each edge comes before the ones behind it
abbrev pub AreAscending : List Edge → Type 0
AreAscending [] = Unit {0}
AreAscending (n ∷ []) = Unit {0}
AreAscending (n ∷ m ∷ ms) = IsTrue (is_before n m) × AreAscending (m ∷ ms)
