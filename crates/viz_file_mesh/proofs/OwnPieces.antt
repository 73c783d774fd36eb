-- Cells that are their own only piece.
use Rattle.std.proofs.Common.{◌≡◌, ℕ, true, false, List, [], ◌∷◌, ◌++◌, length, refl, sym, ap, ◌∙◌, arith}
use Rattle.std.specs.List.{All, list_all, flat_map}
use Rattle.std.proofs.lemmas.Bool.{and_parts}
use Rattle.std.proofs.lemmas.List.{append-nil}
use Rattle.std.proofs.lemmas.List.Elements.{All-head, All-tail}
use Rattle.viz_counted_cells.specs.Sections.{numbers_of_cells}
use Rattle.viz_mesh_read.specs.Poly.{ByKind}
use Rattle.viz_mesh_read.specs.Pieces.{in_cells, is_triangle, triangles_of, pieces_in}
use Rattle.viz_mesh_read.proofs.PieceLemmas.{in_cells-list}
use Rattle.viz_file_mesh.specs.GridPieces.{repeats_none, grid_piece, grid_pieces_in}
use Rattle.viz_file_mesh.specs.Steps.Polygons.{HasPolygonsAlone}

-- ---- the cells of a grid

apart_pieces : (cells : List (List ℕ)) → list_all repeats_none cells ≡ true → flat_map grid_piece cells ≡ cells
apart_pieces [] h = refl
apart_pieces (cell ∷ cells) h =
    let parts = and_parts (repeats_none cell) (list_all repeats_none cells) h in
    rw parts.0 (ap (λ (rest : List (List ℕ)). cell ∷ rest) (apart_pieces cells parts.1))

pub own_grid_pieces : (count : ℕ) (cells : List (List ℕ)) → count ≡ length cells → list_all repeats_none cells ≡ true → cells ≡ grid_pieces_in (count, numbers_of_cells cells)
own_grid_pieces count cells e h = rw e (sym (in_cells-list grid_piece cells ∙ apart_pieces cells h))

-- ---- the triangles of polydata

fan : (cell : List ℕ) → length cell ≡ 3 → is_triangle cell ≡ true → triangles_of false cell ≡ cell ∷ []
fan [] long h = absurd (omega (arith, long))
fan (a ∷ []) long h = absurd (omega (arith, long))
fan (a ∷ b ∷ []) long h = absurd (omega (arith, long))
fan (a ∷ b ∷ c ∷ []) long h = rw h refl
fan (a ∷ b ∷ c ∷ d ∷ cell) long h = absurd (omega (arith, long))

fans : (cells : List (List ℕ)) → All (λ c. length c ≡ 3) cells → list_all is_triangle cells ≡ true → flat_map (triangles_of false) cells ≡ cells
fans [] each h = refl
fans (cell ∷ cells) each h =
    let parts = and_parts (is_triangle cell) (list_all is_triangle cells) h in
    let one : triangles_of false cell ≡ cell ∷ [] = fan cell (All-head (λ c. length c ≡ 3) cell cells each) parts.0 in
    ap (λ (first : List (List ℕ)). first ++ flat_map (triangles_of false) cells) one ∙ ap (λ (rest : List (List ℕ)). cell ∷ rest) (fans cells (All-tail (λ c. length c ≡ 3) cell cells each) parts.1)

pub own_triangles : (count : ℕ) (cells : List (List ℕ)) → count ≡ length cells → All (λ c. length c ≡ 3) cells → list_all is_triangle cells ≡ true → cells ≡ in_cells (triangles_of false) count (numbers_of_cells cells)
own_triangles count cells e each h = rw e (sym (in_cells-list (triangles_of false) cells ∙ fans cells each h))

pub polygons_alone : (all : ByKind (ℕ × List ℕ)) → HasPolygonsAlone all → pieces_in all ≡ in_cells (triangles_of false) all.polygons.0 all.polygons.1
polygons_alone all h = rw (h.no_vertices, h.no_lines, h.no_strips) (append-nil (in_cells (triangles_of false) all.polygons.0 all.polygons.1))
