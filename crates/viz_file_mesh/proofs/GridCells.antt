-- The cells of a grid that is read: each has 1 to 4 indices of points, and a piece of it repeats none.
use Rattle.std.proofs.Common.{◌≡◌, ◌≢◌, ℕ, ℤ, pos, negsuc, ◌≤◌, Bool, true, false, not, List, [], ◌∷◌, length, sym, subst, arith}
use Rattle.std.specs.Prelude.{◌==◌, unwrap_or, Option, Some, None, if◌then◌else◌}
use Rattle.std.specs.List.{All}
use Rattle.std.proofs.lemmas.Bool.{true≢false, eqb-true, eqb-false, and_parts, or_parts, not-true}
use Rattle.std.proofs.lemmas.List.Elements.{All-nil, All-cons, All-head, All-tail}
use Rattle.viz_lex.specs.Reading.{Reading}
use Rattle.viz_lex.specs.Steps.{has}
use Rattle.viz_counted_cells.specs.Sections.{numbers_of_cells, HasIndices, HaveIndices}
use Rattle.viz_mesh_read.specs.Grid.{points_of_type, cell_type, cell_types, Grid, grid}
use Rattle.viz_mesh_read.proofs.IndexLaws.{grid-below}
use Rattle.viz_mesh_read.proofs.PieceLemmas.{in_cells-list}
use Rattle.viz_sheet.specs.Sheet.{AreApart}
use Rattle.viz_sheet.specs.Ranked.{IsCell}
use Rattle.viz_file_mesh.specs.GridPieces.{is_among, repeats_none, grid_piece, grid_pieces, grid_pieces_in}
use Rattle.viz_file_mesh.proofs.CellLemmas.{All-flat_map, All-kept}

-- ---- a cell that repeats no index

among-none : (i : ℕ) (is : List ℕ) → is_among i is ≡ false → All (λ j. i ≢ j) is
among-none i [] h = All-nil (λ j. i ≢ j)
among-none i (j ∷ js) h =
    let p = or_parts (i == j) (is_among i js) h in
    All-cons (λ k. i ≢ k) j js (eqb-false i j p.0) (among-none i js p.1)

pub repeats_none-apart : (cell : List ℕ) → repeats_none cell ≡ true → AreApart cell
repeats_none-apart [] h = tt
repeats_none-apart (i ∷ is) h =
    let p = and_parts (not (is_among i is)) (repeats_none is) h in
    (among-none i is (not-true (is_among i is) p.0), repeats_none-apart is p.1)

-- ---- the sizes that types ask for

-- a cell of 1 to 4 points
abbrev pub IsSized : List ℕ → Type 0
IsSized cell = (1 ≤ length cell) × (length cell ≤ 4)

-- how many points the first of four types that is met has
abbrev size_by : Bool → Bool → Bool → Bool → Option ℕ
size_by a b c d = if a then Some 1 else (if b then Some 2 else (if c then Some 3 else (if d then Some 4 else None)))

sized_by : (a b c d : Bool) (size : ℕ) → has (size_by a b c d) ≡ true → (unwrap_or (size_by a b c d) 0 == size) ≡ true → (1 ≤ size) × (size ≤ 4)
sized_by true b c d size h e = let s = eqb-true 1 size e in (omega (arith, s), omega (arith, s))
sized_by false true c d size h e = let s = eqb-true 2 size e in (omega (arith, s), omega (arith, s))
sized_by false false true d size h e = let s = eqb-true 3 size e in (omega (arith, s), omega (arith, s))
sized_by false false false true size h e = let s = eqb-true 4 size e in (omega (arith, s), omega (arith, s))
sized_by false false false false size h e = absurd (true≢false (sym h))

sized : (t : ℤ) (size : ℕ) → has (points_of_type t) ≡ true → (unwrap_or (points_of_type t) 0 == size) ≡ true → (1 ≤ size) × (size ≤ 4)
sized (pos t) size h e = sized_by (t == 1) (t == 3) (t == 5) (t == 10) size h e
sized (negsuc t) size h e = absurd (true≢false (sym h))

types-sized : (binary : Bool) (cells : List (List ℕ)) (old new : Reading) (x : Unit {0}) → (cell_types binary cells).is old new x → All IsSized cells
types-sized binary [] old new x h = All-nil IsSized
types-sized binary (cell ∷ cells) old new x h =
    let first : (cell_type binary (length cell)).is old h.1 h.0 = h.2 in
    All-cons IsSized cell cells (sized first.0.1 (length cell) first.3.0 first.3.1.0) (types-sized binary cells h.1 new x h.3)

pub grid-sized : (binary later : Bool) (old new : Reading) (g : Grid) → (grid binary later).is old new g → All IsSized g.cells
grid-sized binary later old new g h =
    let behind = h.3.3.3.3 in
    let all = behind.3.3.2 in
    subst (λ (k : Grid). All IsSized k.cells) (sym behind.3.3.3.1) (types-sized binary behind.0 all.3.3.1 behind.3.3.1 behind.3.3.0 all.3.3.3)

-- ---- the pieces

pieces-cells : (points : ℕ) (cells : List (List ℕ)) → HaveIndices points cells → All IsSized cells → All (λ cell. All (IsCell points) (grid_piece cell)) cells
pieces-cells points [] below h = All-nil (λ cell. All (IsCell points) (grid_piece cell))
pieces-cells points (cell ∷ cells) below h =
    let size = All-head IsSized cell cells h in
    All-cons (λ c. All (IsCell points) (grid_piece c)) cell cells
    (All-kept (IsCell points) (repeats_none cell) cell (λ e. record { some = size.0; most = size.1; below = All-head (HasIndices points) cell cells below; apart = repeats_none-apart cell e }))
    (pieces-cells points cells (All-tail (HasIndices points) cell cells below) (All-tail IsSized cell cells h))

pub grid-cells : (binary later : Bool) (old new : Reading) (g : Grid) → (grid binary later).is old new g → All (IsCell g.points.count) (grid_pieces g.cells)
grid-cells binary later old new g h =
    All-flat_map (IsCell g.points.count) grid_piece g.cells (pieces-cells g.points.count g.cells (grid-below binary later old new g h) (grid-sized binary later old new g h))

-- ---- from numbers to cells

pub grid_pieces_in-list : (cells : List (List ℕ)) → grid_pieces_in (length cells, numbers_of_cells cells) ≡ grid_pieces cells
grid_pieces_in-list cells = in_cells-list grid_piece cells
