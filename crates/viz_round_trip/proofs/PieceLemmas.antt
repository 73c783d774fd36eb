-- The pieces of cells that are written are these cells.
use Rattle.std.proofs.Common.{◌≡◌, ◌≢◌, ℕ, ◌==◌, Bool, true, false, List, [], ◌∷◌, ◌++◌, length, refl, ap₂, ◌∙◌, append-nil, eqb-true, arith}
use Rattle.std.specs.Prelude.{cond}
use Rattle.std.specs.List.{All, flat_map}
use Rattle.std.proofs.lemmas.Bool.{ne_eqb}
use Rattle.std.proofs.lemmas.List.Elements.{All-nil, All-cons, All-head, All-tail}
use Rattle.viz_sheet.specs.Sheet.{AreApart}
use Rattle.viz_sheet.specs.Ranked.{IsCell}
use Rattle.viz_mesh_read.specs.Pieces.{kept, vertices_of, lines_of, triangles_of, pieces_of, is_segment, is_triangle}
use Rattle.viz_file_mesh.specs.GridPieces.{is_among, repeats_none, grid_pieces}
use Rattle.viz_mesh_write.specs.Cells.{of_size}
use Rattle.viz_round_trip.specs.MeshTrip.{by_kinds}
use Rattle.viz_round_trip.proofs.PolyStanding.{kinds_of}

pub kept_whole : (test : Bool) (piece : List ℕ) → test ≡ true → kept test piece ≡ piece ∷ []
kept_whole true piece e = refl
kept_whole false piece e = absurd cc

-- ---- a grid

among_none : (i : ℕ) (is : List ℕ) → All (λ j. i ≢ j) is → is_among i is ≡ false
among_none i [] h = refl
among_none i (j ∷ js) h = rw (ne_eqb i j (All-head (λ k. i ≢ k) j js h), among_none i js (All-tail (λ k. i ≢ k) j js h)) refl

apart_none : (cell : List ℕ) → AreApart cell → repeats_none cell ≡ true
apart_none [] h = refl
apart_none (i ∷ is) h = rw (among_none i is h.0, apart_none is h.1) refl

pub grid-pieces : (n : ℕ) (cells : List (List ℕ)) → All (IsCell n) cells → grid_pieces cells ≡ cells
grid-pieces n [] h = refl
grid-pieces n (c ∷ cs) h =
    ap₂ (λ (a b : List (List ℕ)). a ++ b) (kept_whole (repeats_none c) c (apart_none c (All-head (IsCell n) c cs h).apart)) (grid-pieces n cs (All-tail (IsCell n) c cs h))

-- ---- polydata

pub vertex_piece : (n : ℕ) (c : List ℕ) → IsCell n c → length c ≡ 1 → vertices_of c ≡ c ∷ []
vertex_piece n [] is e = absurd (omega (arith, e))
vertex_piece n (a ∷ []) is e = refl
vertex_piece n (a ∷ b ∷ c) is e = absurd (omega (arith, e))

pub line_piece : (n : ℕ) (c : List ℕ) → IsCell n c → length c ≡ 2 → lines_of c ≡ c ∷ []
line_piece n [] is e = absurd (omega (arith, e))
line_piece n (a ∷ []) is e = absurd (omega (arith, e))
line_piece n (a ∷ b ∷ []) is e =
    let differ = All-head (λ k. a ≢ k) b [] is.apart.0 in
    kept_whole (is_segment (a ∷ b ∷ [])) (a ∷ b ∷ []) (rw (ne_eqb a b differ) refl)
line_piece n (a ∷ b ∷ c ∷ d) is e = absurd (omega (arith, e))

triangle_piece : (n : ℕ) (c : List ℕ) → IsCell n c → length c ≡ 3 → triangles_of false c ≡ c ∷ []
triangle_piece n [] is e = absurd (omega (arith, e))
triangle_piece n (a ∷ []) is e = absurd (omega (arith, e))
triangle_piece n (a ∷ b ∷ []) is e = absurd (omega (arith, e))
triangle_piece n (a ∷ b ∷ c ∷ []) is e =
    let ab = All-head (λ k. a ≢ k) b (c ∷ []) is.apart.0 in
    let ac = All-head (λ k. a ≢ k) c [] (All-tail (λ k. a ≢ k) b (c ∷ []) is.apart.0) in
    let bc = All-head (λ k. b ≢ k) c [] is.apart.1.0 in
    kept_whole (is_triangle (a ∷ b ∷ c ∷ [])) (a ∷ b ∷ c ∷ []) (rw (ne_eqb a b ab, ne_eqb b c bc, ne_eqb a c ac) refl)
triangle_piece n (a ∷ b ∷ c ∷ d ∷ x) is e = absurd (omega (arith, e))

whole_cond : (f : List ℕ → List (List ℕ)) (b : Bool) (c : List ℕ) (cs : List (List ℕ)) → (b ≡ true → f c ≡ c ∷ []) → flat_map f cs ≡ cs → flat_map f (cond b (c ∷ cs) cs) ≡ cond b (c ∷ cs) cs
whole_cond f true c cs h e = ap₂ (λ (x y : List (List ℕ)). x ++ y) (h refl) e
whole_cond f false c cs h e = e

-- the pieces of cells of one size
pub whole_size : (n size : ℕ) (f : List ℕ → List (List ℕ)) (cells : List (List ℕ)) → ((c : List ℕ) → IsCell n c → length c ≡ size → f c ≡ c ∷ []) → All (IsCell n) cells → flat_map f (of_size size cells) ≡ of_size size cells
whole_size n size f [] h is = refl
whole_size n size f (c ∷ cs) h is =
    whole_cond f (length c == size) c (of_size size cs) (λ e. h c (All-head (IsCell n) c cs is) (eqb-true (length c) size e)) (whole_size n size f cs h (All-tail (IsCell n) c cs is))

pub poly-pieces : (n : ℕ) (cells : List (List ℕ)) → All (IsCell n) cells → pieces_of (kinds_of (of_size 1 cells) (of_size 2 cells) (of_size 3 cells)) ≡ by_kinds cells
poly-pieces n cells is =
    let a = whole_size n 1 vertices_of cells (vertex_piece n) is in
    let b = whole_size n 2 lines_of cells (line_piece n) is in
    let c = whole_size n 3 (triangles_of false) cells (triangle_piece n) is in
    ap₂ (λ (x y : List (List ℕ)). x ++ y) a (ap₂ (λ (x y : List (List ℕ)). x ++ y) b (append-nil (flat_map (triangles_of false) (of_size 3 cells)) ∙ c))

-- cells of one size are some of the cells
cond_all : (P : List ℕ → Type 0) (b : Bool) (c : List ℕ) (cs : List (List ℕ)) → P c → All P cs → All P (cond b (c ∷ cs) cs)
cond_all P true c cs p h = All-cons P c cs p h
cond_all P false c cs p h = h

pub all-of_size : (P : List ℕ → Type 0) (size : ℕ) (cells : List (List ℕ)) → All P cells → All P (of_size size cells)
all-of_size P size [] h = All-nil P
all-of_size P size (c ∷ cs) h =
    cond_all P (length c == size) c (of_size size cs) (All-head P c cs h) (all-of_size P size cs (All-tail P c cs h))
