-- The pieces of the cells of polydata: vertices, lines and triangles (VTK User's Guide, "Simple
-- legacy formats"; docs/FORMATS-OF-FILES.md, "Grids and polydata").
use Rattle.std.specs.Prelude.{ℕ, zero, suc, ◌+◌, ◌-◌, ◌%◌, Bool, true, false, not, ◌&&◌, ◌==◌}
use Rattle.std.specs.Prelude.{List, [], ◌∷◌, ◌++◌, length, slice_index, if◌then◌else◌}
use Rattle.std.specs.List.{flat_map}
use Rattle.viz_counted_cells.specs.Numbered.{first_indices, behind_first}
use Rattle.viz_mesh_read.specs.Poly.{ByKind}

-- the pieces of so many numbers, one after the other
abbrev pub pieces_up_to : (ℕ → List (List ℕ)) → ℕ → List (List ℕ)
pieces_up_to f zero = []
pieces_up_to f (suc n) = pieces_up_to f n ++ f n

-- a piece, where it repeats no index
abbrev pub kept : Bool → List ℕ → List (List ℕ)
kept test piece = if test then piece ∷ [] else []

-- the vertex of a number
abbrev pub vertex_of : List ℕ → ℕ → List ℕ
vertex_of cell i = slice_index cell i ∷ []

-- a list of vertices is split into its vertices
abbrev pub vertices_of : List ℕ → List (List ℕ)
vertices_of cell = pieces_up_to (λ i. vertex_of cell i ∷ []) (length cell)

-- the segment of a number
abbrev pub segment_of : List ℕ → ℕ → List ℕ
segment_of cell i = slice_index cell i ∷ slice_index cell (i + 1) ∷ []

-- its ends differ
abbrev pub is_segment : List ℕ → Bool
is_segment piece = not (slice_index piece 0 == slice_index piece 1)

-- a polyline is split into its segments
abbrev pub lines_of : List ℕ → List (List ℕ)
lines_of cell = pieces_up_to (λ i. kept (is_segment (segment_of cell i)) (segment_of cell i))
    (length cell - 1)

-- the triangle of a number: of a polygon, which is fanned from its first point; or of a strip,
-- where each other triangle is turned
abbrev pub triangle_of : Bool → List ℕ → ℕ → List ℕ
triangle_of false cell i = slice_index cell 0 ∷ slice_index cell (i + 1) ∷ slice_index cell
    (i + 2) ∷ []
triangle_of true cell i =
    if i % 2 == 0 then slice_index cell i ∷ slice_index cell (i + 1) ∷ slice_index cell (i + 2) ∷ []
    else slice_index cell (i + 1) ∷ slice_index cell i ∷ slice_index cell (i + 2) ∷ []

-- its corners differ
abbrev pub is_triangle : List ℕ → Bool
is_triangle piece =
    not (slice_index piece 0 == slice_index piece 1)
    && (not (slice_index piece 1 == slice_index piece 2)
    && not (slice_index piece 0 == slice_index piece 2))

-- a polygon is fanned, and a strip gives a triangle for each point behind its second
abbrev pub triangles_of : Bool → List ℕ → List (List ℕ)
triangles_of strip cell = pieces_up_to (λ i. kept (is_triangle (triangle_of strip cell i))
    (triangle_of strip cell i)) (length cell - 2)

-- the pieces of all cells: vertices first, then lines, polygons and strips, none of which repeats
-- an index
abbrev pub pieces_of : ByKind (List (List ℕ)) → List (List ℕ)
pieces_of all =
    flat_map vertices_of all.vertices ++ (flat_map lines_of all.lines
    ++ (flat_map (triangles_of false) all.polygons ++ flat_map (triangles_of true) all.strips))

-- the pieces of so many cells, whose numbers are these
abbrev pub in_cells : (List ℕ → List (List ℕ)) → ℕ → List ℕ → List (List ℕ)
in_cells f zero numbers = []
in_cells f (suc n) numbers = f (first_indices numbers) ++ in_cells f n (behind_first numbers)

-- the pieces of all cells by their numbers
abbrev pub pieces_in : ByKind (ℕ × List ℕ) → List (List ℕ)
pieces_in all =
    in_cells vertices_of all.vertices.0 all.vertices.1
    ++ (in_cells lines_of all.lines.0 all.lines.1
    ++ (in_cells (triangles_of false) all.polygons.0 all.polygons.1
    ++ in_cells (triangles_of true) all.strips.0 all.strips.1))
