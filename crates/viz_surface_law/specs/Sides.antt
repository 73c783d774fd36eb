-- Sides of triangles between edges of a grid, and the facet in which a side lies (Doi and Koide
-- 1991).
use Rattle.std.specs.Prelude.{ℕ, ◌==◌, ◌&&◌, ◌||◌, Bool, List, [], ◌∷◌}
use Rattle.viz_grid_section.specs.Edges.{Edge}

-- a side of a triangle, run through from one end to the other; each end lies on an edge of the grid
pub record Side : Type 0 where
  pub tail : Edge
  pub head : Edge

-- the side from one end to another
abbrev pub side : Edge → Edge → Side
side p q = record { tail = p; head = q }

-- the side run through the other way
abbrev pub turned : Side → Side
turned s = side s.head s.tail

-- the three sides of a triangle, in the direction of its ends
abbrev pub sides_of : List Edge → List Side
sides_of (p ∷ q ∷ r ∷ []) = side p q ∷ side q r ∷ side r p ∷ []
sides_of cell = []

-- whether two edges are the same
abbrev pub same_edge : Edge → Edge → Bool
same_edge m n = (m.low == n.low) && (m.high == n.high)

-- whether two sides are the same, run through in the same direction
abbrev pub same_side : Side → Side → Bool
same_side s t = same_edge s.tail t.tail && same_edge s.head t.head

-- whether the edges of a side share a leaf: then it lies in the facet of their three leaves, and
-- else inside a tetrahedron
abbrev pub shares : Side → Bool
shares s =
    (s.tail.low == s.head.low) || ((s.tail.low == s.head.high)
    || ((s.tail.high == s.head.low) || (s.tail.high == s.head.high)))

-- the leaves of both edges: those of the facet, where the edges share one
abbrev pub facet_of : Side → List ℕ
facet_of s = s.tail.low ∷ s.tail.high ∷ s.head.low ∷ s.head.high ∷ []
