-- The solid that is kept of a tetrahedron, and how a prism is split into tetrahedra: from its least
-- vertex, and each quadrilateral by the diagonal from its least vertex (Dompierre et al. 1999).
use Rattle.std.specs.Prelude.{ℕ, Bool, not, ◌||◌, List, [], ◌∷◌, map, if◌then◌else◌}
use Rattle.std.specs.declared.cmp.Ordering.{Ordering}
use Rattle.std.specs.Cmp.Lexicographic.{slice_cmp}
use Rattle.viz_sheet.specs.Kept.{kept}
use Rattle.viz_clip_meaning.specs.declared.vertex.Vertex.{Vertex}
use Rattle.viz_clip_meaning.specs.declared.vertex.Vertex.TheVariants.{Corner}
use Rattle.viz_clip_meaning.specs.Order.{ascending, is_least}
use Rattle.viz_clip_meaning.specs.Vertices.{cut, vertex_cmp}

-- what is kept of a tetrahedron with these inside and outside corners: nothing, the four vertices
-- of a tetrahedron, or the six of a prism: a triangle, and then the partner of each of its vertices
abbrev pub kept_solid : List ℕ → List ℕ → List Vertex
kept_solid (a ∷ []) (b ∷ c ∷ d ∷ []) = Corner a ∷ cut a b ∷ cut a c ∷ cut a d ∷ []
kept_solid (a ∷ b ∷ []) (c ∷ d ∷ []) =
    Corner a ∷ cut a c ∷ cut a d ∷ Corner b ∷ cut b c ∷ cut b d ∷ []
kept_solid (a ∷ b ∷ c ∷ []) (d ∷ []) =
    Corner a ∷ Corner b ∷ Corner c ∷ cut a d ∷ cut b d ∷ cut c d ∷ []
kept_solid (a ∷ b ∷ c ∷ d ∷ []) [] = Corner a ∷ Corner b ∷ Corner c ∷ Corner d ∷ []
kept_solid inside outside = []

-- a quadrilateral, whose vertices go round it, in two triangles: by the diagonal from the least one
abbrev pub halves : {V : Type 0} → (V → V → Ordering) → V → V → V → V → List (List V)
halves cmp p q r s =
    if is_least cmp p (q ∷ r ∷ s ∷ []) || is_least cmp r (p ∷ q ∷ s ∷ [])
    then (p ∷ q ∷ r ∷ []) ∷ (p ∷ r ∷ s ∷ []) ∷ []
    else (p ∷ q ∷ s ∷ []) ∷ (q ∷ r ∷ s ∷ []) ∷ []

-- a prism from its least vertex p: that vertex with the triangle s t u, and with both halves of the
-- quadrilateral without it; p and s, q and t, r and u are partners
abbrev pub from_least : {V : Type 0} → (V → V → Ordering) → V → V → V → V → V → V → List (List V)
from_least cmp p q r s t u =
    (p ∷ s ∷ t ∷ u ∷ []) ∷ map (λ half. p ∷ half) (halves cmp q r u t)

-- a prism, turned so that its least vertex is the first one
abbrev pub split_prism : {V : Type 0} → (V → V → Ordering) → V → V → V → V → V → V → List (List V)
split_prism cmp a b c d e f =
    if is_least cmp a (b ∷ c ∷ d ∷ e ∷ f ∷ []) then from_least cmp a b c d e f
    else if is_least cmp b (a ∷ c ∷ d ∷ e ∷ f ∷ []) then from_least cmp b c a e f d
    else if is_least cmp c (a ∷ b ∷ d ∷ e ∷ f ∷ []) then from_least cmp c a b f d e
    else if is_least cmp d (a ∷ b ∷ c ∷ e ∷ f ∷ []) then from_least cmp d e f a b c
    else if is_least cmp e (a ∷ b ∷ c ∷ d ∷ f ∷ []) then from_least cmp e f d b c a
    else from_least cmp f d e c a b

-- a kept solid as tetrahedra
abbrev pub split : {V : Type 0} → (V → V → Ordering) → List V → List (List V)
split cmp (a ∷ b ∷ c ∷ d ∷ []) = (a ∷ b ∷ c ∷ d ∷ []) ∷ []
split cmp (a ∷ b ∷ c ∷ d ∷ e ∷ f ∷ []) = split_prism cmp a b c d e f
split cmp solid = []

-- these tetrahedra in ascending order, the vertices of each ascending
abbrev pub in_order : {V : Type 0} → (V → V → Ordering) → List (List V) → List (List V)
in_order cmp tets = ascending (slice_cmp cmp) (map (ascending cmp) tets)

-- the tetrahedra that are kept of one with these leaves, by which of them are inside
abbrev pub kept_tets : List Bool → List ℕ → List (List Vertex)
kept_tets inside leaves = in_order vertex_cmp
    (split vertex_cmp (kept_solid (kept inside leaves) (kept (map not inside) leaves)))
