-- The triangles in one tetrahedron by the numbers of its six edges: words of private contracts
-- alone.
use Rattle.std.specs.Prelude.{ℕ, ◌+◌, ◌-◌, ◌==◌, List, [], ◌∷◌, map, slice_index, if◌then◌else◌}
use Rattle.viz_fraction.specs.CaseRows.{End}
use Rattle.viz_fraction.specs.Cases.{cells_at}
use Rattle.viz_grid_section.specs.Edges.{Edge, edge_of}

-- the six edges of a tetrahedron stand in the order 0 1, 0 2, 0 3, 1 2, 1 3, 2 3
abbrev pub place_of_end : End → ℕ
place_of_end e = if e.low == 0 then e.high - 1 else e.low + e.high

-- the cells in a tetrahedron with this mask, by the numbers of its six edges
abbrev pub numbered : ℕ → List ℕ → List (List ℕ)
numbered mask edges = map (λ cell. map (λ (e : End). slice_index edges (place_of_end e)) cell)
    (cells_at 4 mask)

-- the six edges of a tetrahedron
abbrev pub six_edges : List ℕ → List Edge
six_edges leaves =
    let at = slice_index leaves in
    edge_of (at 0) (at 1) ∷ edge_of (at 0) (at 2) ∷ edge_of (at 0) (at 3) ∷ edge_of (at 1)
    (at 2) ∷ edge_of (at 1) (at 3) ∷ edge_of (at 2) (at 3) ∷ []

-- a row of the table of masks, by the numbers of six edges
abbrev pub held : ℕ → List ℕ → List ℕ → List (List ℕ)
held count ends edges =
    let at : ℕ → ℕ = λ k. slice_index edges (slice_index ends k) in
    if count == 0 then []
    else if count == 1 then (at 0 ∷ at 1 ∷ at 2 ∷ []) ∷ []
    else (at 0 ∷ at 1 ∷ at 2 ∷ []) ∷ (at 3 ∷ at 4 ∷ at 5 ∷ []) ∷ []
