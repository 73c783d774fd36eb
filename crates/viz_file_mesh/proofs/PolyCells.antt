-- The pieces of polydata that is read: vertices, lines and triangles of different points.
use Rattle.std.proofs.Common.{◌≡◌, ◌≢◌, ℕ, ◌+◌, ◌-◌, ◌%◌, ◌^◌, ◌<◌, Bool, true, false, not, List, [], ◌∷◌, length, sym, subst, arith}
use Rattle.std.specs.Prelude.{◌==◌, ◌&&◌, slice_index, unsigned_abs, if◌then◌else◌}
use Rattle.std.specs.List.{All, flat_map}
use Rattle.std.proofs.lemmas.Bool.{ltb-true, eqb-false, and_parts, not-true}
use Rattle.std.proofs.lemmas.List.Elements.{All-nil, All-cons, All-append, All-get_or, All-weaker}
use Rattle.viz_lex.specs.Reading.{Reading}
use Rattle.viz_mesh_read.specs.declared.coordinates.FilePoints.{FilePoints}
use Rattle.viz_mesh_read.specs.Points.{points}
use Rattle.viz_counted_cells.specs.Sections.{HasIndices, HaveIndices}
use Rattle.viz_mesh_read.specs.Poly.{ByKind, Poly, polydata, HaveIndicesByKind}
use Rattle.viz_mesh_read.specs.Pieces.{kept, vertex_of, vertices_of, segment_of, is_segment, lines_of, triangle_of, is_triangle, triangles_of, pieces_of}
use Rattle.viz_mesh_read.proofs.IndexLaws.{polydata-below}
use Rattle.viz_sheet.specs.Ranked.{IsCell}
use Rattle.viz_file_mesh.proofs.CellLemmas.{All-flat_map, All-up_to, All-one, All-kept}

-- ---- cells of one, two and three points

one-cell : (n a : ℕ) → a < n → IsCell n (a ∷ [])
one-cell n a l = record { some = omega arith; most = omega arith; below = All-one (λ r. r < n) a l; apart = (All-nil (λ y. a ≢ y), tt) }

two-cell : (n a b : ℕ) → a < n → b < n → is_segment (a ∷ b ∷ []) ≡ true → IsCell n (a ∷ b ∷ [])
two-cell n a b la lb h = record {
  some = omega arith;
  most = omega arith;
  below = All-cons (λ r. r < n) a (b ∷ []) la (All-one (λ r. r < n) b lb);
  apart = (All-one (λ y. a ≢ y) b (eqb-false a b (not-true (a == b) h)), (All-nil (λ y. b ≢ y), tt));
}

three-cell : (n a b c : ℕ) → a < n → b < n → c < n → is_triangle (a ∷ b ∷ c ∷ []) ≡ true → IsCell n (a ∷ b ∷ c ∷ [])
three-cell n a b c la lb lc h =
    let p = and_parts (not (a == b)) (not (b == c) && not (a == c)) h in
    let q = and_parts (not (b == c)) (not (a == c)) p.1 in
    record {
      some = omega arith;
      most = omega arith;
      below = All-cons (λ r. r < n) a (b ∷ c ∷ []) la (All-cons (λ r. r < n) b (c ∷ []) lb (All-one (λ r. r < n) c lc));
      apart = (
        All-cons (λ y. a ≢ y) b (c ∷ []) (eqb-false a b (not-true (a == b) p.0)) (All-one (λ y. a ≢ y) c (eqb-false a c (not-true (a == c) q.1))),
        (All-one (λ y. b ≢ y) c (eqb-false b c (not-true (b == c) q.0)), (All-nil (λ y. c ≢ y), tt)),
      );
    }

kept_three : (n a b c : ℕ) → a < n → b < n → c < n → All (IsCell n) (kept (is_triangle (a ∷ b ∷ c ∷ [])) (a ∷ b ∷ c ∷ []))
kept_three n a b c la lb lc = All-kept (IsCell n) (is_triangle (a ∷ b ∷ c ∷ [])) (a ∷ b ∷ c ∷ []) (three-cell n a b c la lb lc)

-- a triangle of a strip
turned : (n : ℕ) (even : Bool) (a b c : ℕ) → a < n → b < n → c < n
    → All (IsCell n) (kept (is_triangle (if even then a ∷ b ∷ c ∷ [] else b ∷ a ∷ c ∷ [])) (if even then a ∷ b ∷ c ∷ [] else b ∷ a ∷ c ∷ []))
turned n true a b c la lb lc = kept_three n a b c la lb lc
turned n false a b c la lb lc = kept_three n b a c lb la lc

-- ---- the pieces of a cell

index_below : (n : ℕ) (cell : List ℕ) (i : ℕ) → HasIndices n cell → i < length cell → slice_index cell i < n
index_below n cell i h l = All-get_or (λ j. j < n) cell i 0 l h

vertices-cells : (n : ℕ) (cell : List ℕ) → HasIndices n cell → All (IsCell n) (vertices_of cell)
vertices-cells n cell h = All-up_to (IsCell n) (λ i. vertex_of cell i ∷ []) (length cell) (λ i l. All-one (IsCell n) (vertex_of cell i) (one-cell n (slice_index cell i) (index_below n cell i h l)))

lines-cells : (n : ℕ) (cell : List ℕ) → HasIndices n cell → All (IsCell n) (lines_of cell)
lines-cells n cell h =
    All-up_to (IsCell n) (λ i. kept (is_segment (segment_of cell i)) (segment_of cell i)) (length cell - 1) (λ i l.
    All-kept (IsCell n) (is_segment (segment_of cell i)) (segment_of cell i)
    (two-cell n (slice_index cell i) (slice_index cell (i + 1)) (index_below n cell i h (omega arith)) (index_below n cell (i + 1) h (omega arith))))

triangle-cells : (n : ℕ) (strip : Bool) (cell : List ℕ) (i : ℕ) → HasIndices n cell → i < length cell - 2 → All (IsCell n) (kept (is_triangle (triangle_of strip cell i)) (triangle_of strip cell i))
triangle-cells n false cell i h l =
    kept_three n (slice_index cell 0) (slice_index cell (i + 1)) (slice_index cell (i + 2)) (index_below n cell 0 h (omega arith)) (index_below n cell (i + 1) h (omega arith)) (index_below n cell (i + 2) h (omega arith))
triangle-cells n true cell i h l =
    turned n (i % 2 == 0) (slice_index cell i) (slice_index cell (i + 1)) (slice_index cell (i + 2)) (index_below n cell i h (omega arith)) (index_below n cell (i + 1) h (omega arith)) (index_below n cell (i + 2) h (omega arith))

triangles-cells : (n : ℕ) (strip : Bool) (cell : List ℕ) → HasIndices n cell → All (IsCell n) (triangles_of strip cell)
triangles-cells n strip cell h =
    All-up_to (IsCell n) (λ i. kept (is_triangle (triangle_of strip cell i)) (triangle_of strip cell i)) (length cell - 2) (λ i l. triangle-cells n strip cell i h l)

-- ---- the pieces of all cells

of_each : (n : ℕ) (f : List ℕ → List (List ℕ)) (cells : List (List ℕ)) → ((cell : List ℕ) → HasIndices n cell → All (IsCell n) (f cell)) → HaveIndices n cells → All (IsCell n) (flat_map f cells)
of_each n f cells step h = All-flat_map (IsCell n) f cells (All-weaker (HasIndices n) (λ cell. All (IsCell n) (f cell)) step cells h)

pub pieces-cells : (n : ℕ) (all : ByKind (List (List ℕ))) → HaveIndicesByKind n all → All (IsCell n) (pieces_of all)
pieces-cells n all h =
    let vertices = of_each n vertices_of all.vertices (vertices-cells n) h.vertices in
    let lines = of_each n lines_of all.lines (lines-cells n) h.lines in
    let polygons = of_each n (triangles_of false) all.polygons (triangles-cells n false) h.polygons in
    let strips = of_each n (triangles_of true) all.strips (triangles-cells n true) h.strips in
    All-append (IsCell n) _ _ vertices (All-append (IsCell n) _ _ lines (All-append (IsCell n) _ _ polygons strips))

pub polydata-cells : (binary later : Bool) (old new : Reading) (p : Poly) → (polydata binary later).is old new p → All (IsCell p.points.count) (pieces_of p.cells)
polydata-cells binary later old new p h = pieces-cells p.points.count p.cells (polydata-below binary later old new p h)

-- ---- the number of points

pub points-few : (binary : Bool) (old new : Reading) (p : FilePoints) → (points binary).is old new p → p.count < 2 ^ 31
points-few binary old new p h =
    let counted = h.3.2 in
    let made = h.3.3.3.3.3.1 in
    let few : h.3.0 < 2 ^ 31 = subst (λ (k : ℕ). k < 2 ^ 31) (sym counted.3.1.1.1) (ltb-true (unsigned_abs counted.0.1) (2 ^ 31) counted.3.1.0) in
    subst (λ (q : FilePoints). q.count < 2 ^ 31) (sym made) few
