-- Rows of cells are the blocks of sections, and sections the text of the cells.
use Rattle.std.proofs.Common.{◌≡◌, ℕ, suc, ℤ, ◌+◌, ◌-◌, ◌*◌, ◌<◌, ◌^◌, ◌==◌, nat_lt, Bool, true, false, List, [], ◌∷◌, ◌++◌, length, map, refl, sym, ap, ap₂, ◌∙◌, lt-ltb, arith}
use Rattle.std.specs.Prelude.{cond, codes, Option, Some, None, if◌then◌else◌}
use Rattle.std.specs.List.{flat_map}
use Rattle.std.proofs.Math.Nat.{add-mul}
use Rattle.std.proofs.lemmas.List.{length-map}
use Rattle.std.proofs.lemmas.List.Concat.{flat_map-append}
use Rattle.std.proofs.lemmas.List.Folds.{flat_map-map}
use Rattle.viz_column.specs.declared.kind.Kind8.{Kind8}
use Rattle.viz_column.specs.declared.kind.Kind8.TheVariants.{I32, I64}
use Rattle.viz_image_write.proofs.PassLemmas.{appended}
use Rattle.viz_mesh_write.specs.Cells.{moved, of_size, has_tetrahedra}
use Rattle.viz_mesh_write.specs.Rows.{row_of, block_end, block_text}
use Rattle.viz_mesh_write.specs.Sections.{cell_numbers, size_of, section_line, counted_section, indices_of, index_count, offsets_of, offset_row, offsets_line, offsets_text, connectivity_line, connectivity_text, offset_section, section_text}
use Rattle.viz_mesh_write.specs.MeshText.{type_of, types_line, types_text, grid_text, some_section, parts_text, poly_text, cells_text}
use Rattle.viz_mesh_write.specs.Steps.Passes.{kind_of, numbers_of, is_kept, kept, kept_row, type_row, cell_rows}
use Rattle.viz_mesh_write.specs.Steps.SheetCells.{CellsData, indices_from}
use Rattle.viz_mesh_write.specs.Steps.Tallies.{AreCounted, cell_count, size_count}
use Rattle.viz_mesh_write.specs.declared.tally.Tally.{Tally}
use Rattle.viz_mesh_write.proofs.TallyLemmas.{count_by_sizes, size_by_sizes, size_cons, size_of_size, has_some}
use Rattle.viz_mesh_write.proofs.StartLemmas.{offset_count}

sheet_rows : (row : ℕ → List ℕ → List ℕ) (text : List ℕ → List ℕ) → ((first : ℕ) (c : List ℕ) → row first c ≡ text (moved first c)) → (first : ℕ) (cells : List (List ℕ))
    → flat_map (row first) cells ≡ flat_map text (map (moved first) cells)
sheet_rows row text h first [] = refl
sheet_rows row text h first (c ∷ cells) =
    ap₂ (λ (a b : List ℕ). a ++ b) (h first c) (sheet_rows row text h first cells)

-- rows of cells by ranks are those of cells by indices
rows_are : (row : ℕ → List ℕ → List ℕ) (text : List ℕ → List ℕ) → ((first : ℕ) (c : List ℕ) → row first c ≡ text (moved first c)) → (first : ℕ) (sheets : List CellsData) → cell_rows row first sheets ≡ flat_map text (indices_from first sheets)
rows_are row text h first [] = refl
rows_are row text h first (s ∷ sheets) =
    let next = first + s.points in
    ap₂ (λ (a b : List ℕ). a ++ b) (sheet_rows row text h first s.cells) (rows_are row text h next sheets) ∙ sym (flat_map-append text (map (moved first) s.cells) (indices_from next sheets))

-- a block by the items that its rows are made of
pub block_is : {X : Type 0} (binary : Bool) (kind : Kind8) (numbers : X → List ℤ) (xs : List X) (n : ℕ) (rows : List ℕ) → n ≡ length xs → rows ≡ flat_map (λ x. row_of binary kind (numbers x)) xs
    → rows ++ block_end binary n ≡ block_text binary kind (map numbers xs)
block_is binary kind numbers xs n rows e f =
    ap₂ (λ (a b : List ℕ). a ++ b) (f ∙ sym (flat_map-map (row_of binary kind) numbers xs)) (ap (block_end binary) (e ∙ sym (length-map xs numbers)))

-- the rows of all types
pub types_block : (binary : Bool) (n : ℕ) (sheets : List CellsData) → n ≡ length (indices_from 0 sheets) → cell_rows (λ first c. type_row binary first c) 0 sheets ++ block_end binary n ≡ block_text binary I32 (map (λ cell. type_of (length cell) ∷ []) (indices_from 0 sheets))
types_block binary n sheets e =
    block_is binary I32 (λ (cell : List ℕ). type_of (length cell) ∷ []) (indices_from 0 sheets) n _ e
    (rows_are (λ first c. type_row binary first c) (λ c. row_of binary I32 (type_of (length c) ∷ [])) (λ first c. ap (λ (k : ℕ). row_of binary I32 (type_of k ∷ [])) (sym (length-map c (λ r. first + r)))) 0 sheets)

rows_cond : (b : Bool) (text : List ℕ → List ℕ) (c : List ℕ) (rest : List ℕ) (cells : List (List ℕ)) → rest ≡ flat_map text cells → cond b (text c) [] ++ rest ≡ flat_map text (cond b (c ∷ cells) cells)
rows_cond true text c rest cells e = ap (λ (t : List ℕ). text c ++ t) e
rows_cond false text c rest cells e = e

rows_of_size : (size : ℕ) (text : List ℕ → List ℕ) (cells : List (List ℕ)) → flat_map (λ c. cond (length c == size) (text c) []) cells ≡ flat_map text (of_size size cells)
rows_of_size size text [] = refl
rows_of_size size text (c ∷ cells) =
    rows_cond (length c == size) text c (flat_map (λ d. cond (length d == size) (text d) []) cells) (of_size size cells) (rows_of_size size text cells)

rows_kept : (size : Option ℕ) (text : List ℕ → List ℕ) (cells : List (List ℕ)) → flat_map (λ c. cond (is_kept size c) (text c) []) cells ≡ flat_map text (kept size cells)
rows_kept None text cells = refl
rows_kept (Some n) text cells = rows_of_size n text cells

-- a cell is kept by its number of points
pub same_kept : (size : Option ℕ) (c d : List ℕ) → length c ≡ length d → is_kept size c ≡ is_kept size d
same_kept None c d e = refl
same_kept (Some n) c d e = ap (λ (k : ℕ). k == n) e

-- the rows of the cells that are kept
pub kept_block : (size : Option ℕ) (later binary : Bool) (n : ℕ) (sheets : List CellsData) → n ≡ length (kept size (indices_from 0 sheets)) → cell_rows (λ first c. kept_row size later binary first c) 0 sheets ++ block_end binary n ≡ block_text binary (kind_of later) (map (numbers_of later) (kept size (indices_from 0 sheets)))
kept_block size later binary n sheets e =
    let text : List ℕ → List ℕ = λ (c : List ℕ). row_of binary (kind_of later) (numbers_of later c) in
    block_is binary (kind_of later) (numbers_of later) (kept size (indices_from 0 sheets)) n _ e
    (rows_are (λ first c. kept_row size later binary first c) (λ c. cond (is_kept size c) (text c) []) (λ first c. ap (λ (b : Bool). cond b (text (moved first c)) []) (same_kept size c (moved first c) (sym (length-map c (λ r. first + r))))) 0 sheets
    ∙ rows_kept size text (indices_from 0 sheets))

-- how many numbers cells have
pub size_counts : (cells : List (List ℕ)) → size_of cells ≡ length cells + index_count cells
size_counts [] = refl
size_counts (c ∷ cells) =
    let more = size_cons c cells in
    let rest = size_counts cells in
    omega (arith, more, rest)

-- a section of version 3.0 is its line and its block
pub counted_is : (binary : Bool) (keyword : List ℕ) (cells : List (List ℕ)) (n b : ℕ) (block old mid new : List ℕ) → n ≡ length cells → b ≡ index_count cells → block ≡ block_text binary I32 (map cell_numbers cells)
    → mid ≡ old ++ section_line keyword n (n + b) → new ≡ mid ++ block → new ≡ old ++ counted_section binary keyword cells
unfolding counted_section
counted_is binary keyword cells n b block old mid new e f g h k =
    let size : n + b ≡ size_of cells = ap₂ (λ (x y : ℕ). x + y) e f ∙ sym (size_counts cells) in
    appended old mid new (section_line keyword n (n + b)) block h k
    ∙ ap (λ (t : List ℕ). old ++ t) (ap₂ (λ (x y : ℕ). section_line keyword x y ++ block) e size ∙ ap (λ (t : List ℕ). section_line keyword (length cells) (size_of cells) ++ t) g)

-- offsets are their line and their block
pub offsets_are : (binary : Bool) (cells : List (List ℕ)) (n : ℕ) (rows old line mid new : List ℕ) → n ≡ length cells → rows ≡ flat_map (λ k. row_of binary I64 (offset_row k)) (offsets_of cells)
    → line ≡ old ++ offsets_line → mid ≡ line ++ rows → new ≡ mid ++ block_end binary (n + 1) → new ≡ old ++ offsets_text binary cells
unfolding offsets_text
offsets_are binary cells n rows old line mid new e f g h k =
    let count : n + 1 ≡ length (offsets_of cells) = ap (λ (m : ℕ). m + 1) e ∙ sym (offset_count 0 cells) in
    appended old line new offsets_line (rows ++ block_end binary (n + 1)) g (appended line mid new rows (block_end binary (n + 1)) h k)
    ∙ ap (λ (t : List ℕ). old ++ (offsets_line ++ t)) (block_is binary I64 offset_row (offsets_of cells) (n + 1) rows count f)

-- a section of version 5.1 is its line, its offsets, a line and its block
pub offset_section_is : (binary : Bool) (keyword : List ℕ) (cells : List (List ℕ)) (n b : ℕ) (block old one two three new : List ℕ) → n ≡ length cells → b ≡ index_count cells → block ≡ block_text binary I64 (map indices_of cells)
    → one ≡ old ++ section_line keyword (n + 1) b → two ≡ one ++ offsets_text binary cells → three ≡ two ++ connectivity_line → new ≡ three ++ block → new ≡ old ++ offset_section binary keyword cells
unfolding offset_section connectivity_text
offset_section_is binary keyword cells n b block old one two three new e f g h k l m =
    let offsets = offsets_text binary cells in
    let line = section_line keyword (n + 1) b in
    appended old two new (line ++ offsets) (connectivity_line ++ block) (appended old one two line offsets h k) (appended two three new connectivity_line block l m)
    ∙ ap (λ (t : List ℕ). old ++ t) (ap₂ (λ (x y : ℕ). (section_line keyword (x + 1) y ++ offsets) ++ (connectivity_line ++ block)) e f
    ∙ ap (λ (t : List ℕ). (section_line keyword (length cells + 1) (index_count cells) ++ offsets) ++ (connectivity_line ++ t)) g)

-- types are their line and their block
pub types_are : (binary : Bool) (cells : List (List ℕ)) (n : ℕ) (block old mid new : List ℕ) → n ≡ length cells → block ≡ block_text binary I32 (map (λ cell. type_of (length cell) ∷ []) cells)
    → mid ≡ old ++ types_line n → new ≡ mid ++ block → new ≡ old ++ types_text binary cells
unfolding types_text
types_are binary cells n block old mid new e g h k =
    appended old mid new (types_line n) block h k ∙ ap (λ (t : List ℕ). old ++ t) (ap₂ (λ (a : ℕ) (b : List ℕ). types_line a ++ b) e g)

-- a grid is a section and types
pub grid_is : (later binary : Bool) (cells : List (List ℕ)) (old mid new : List ℕ) → mid ≡ old ++ section_text later binary (codes "CELLS") cells → new ≡ mid ++ types_text binary cells → new ≡ old ++ grid_text later binary cells
unfolding grid_text
grid_is later binary cells old mid new h k = appended old mid new (section_text later binary (codes "CELLS") cells) (types_text binary cells) h k

-- how many indices the cells of one size have
pub indices_are : (size n : ℕ) (cells : List (List ℕ)) → n ≡ length (of_size size cells) → size * n ≡ index_count (of_size size cells)
indices_are size n cells e =
    let k = length (of_size size cells) in
    let one : size + 1 ≡ suc size = omega arith in
    let numbers : suc size * k ≡ k + index_count (of_size size cells) = sym (size_of_size size cells) ∙ size_counts (of_size size cells) in
    let split : suc size * k ≡ size * k + 1 * k = ap (λ (m : ℕ). m * k) (sym one) ∙ add-mul size 1 k in
    ap (λ (m : ℕ). size * m) e ∙ omega (arith, numbers, split)

-- and how many numbers
pub numbers_fit : (size n : ℕ) → (size + 1) * n < 2 ^ 31 → n + size * n < 2 ^ 31
numbers_fit size n fits =
    let split : (size + 1) * n ≡ size * n + 1 * n = add-mul size 1 n in
    omega (arith, split, fits)

-- a section without a cell isn't there
pub no_section : (later binary : Bool) (keyword : List ℕ) (cells : List (List ℕ)) → length cells ≡ 0 → some_section later binary keyword cells ≡ []
no_section later binary keyword [] e = refl
no_section later binary keyword (c ∷ cells) e = absurd (omega (arith, e))

-- one with a cell is
pub is_section : (later binary : Bool) (keyword : List ℕ) (cells : List (List ℕ)) → 0 < length cells → section_text later binary keyword cells ≡ some_section later binary keyword cells
is_section later binary keyword [] lt = absurd (omega (arith, lt))
is_section later binary keyword (c ∷ cells) lt = refl

-- how many cells, and numbers of them
pub all_count : (cells : List (List ℕ)) (t : Tally) → AreCounted cells t → cell_count t ≡ length cells
all_count cells t is =
    let count = count_by_sizes cells is.sized in
    omega (arith, count, is.vertices, is.lines, is.triangles, is.tetrahedra)

pub all_size : (cells : List (List ℕ)) (t : Tally) → AreCounted cells t → size_count t ≡ size_of cells
all_size cells t is =
    let size = size_by_sizes cells is.sized in
    omega (arith, size, is.vertices, is.lines, is.triangles, is.tetrahedra)

-- how many indices
pub all_indices : (cells : List (List ℕ)) (t : Tally) → AreCounted cells t → size_count t - cell_count t ≡ index_count cells
all_indices cells t is =
    let count = all_count cells t is in
    let size = all_size cells t is in
    let both = size_counts cells in
    omega (arith, count, size, both)

empty_poly : (later binary : Bool) (cells : List (List ℕ)) → length cells ≡ 0 → section_text later binary (codes "POLYGONS") cells ≡ poly_text later binary cells
empty_poly later binary [] e = refl
empty_poly later binary (c ∷ cells) e = absurd (omega (arith, e))

-- without a cell there is a section of no polygons
pub no_cells : (later binary : Bool) (cells : List (List ℕ)) (t : Tally) → AreCounted cells t → cell_count t ≡ 0 → section_text later binary (codes "POLYGONS") cells ≡ poly_text later binary cells
no_cells later binary cells t is none = empty_poly later binary cells (sym (all_count cells t is) ∙ none)

-- and no index
pub no_indices : (cells : List (List ℕ)) → length cells ≡ 0 → 0 ≡ index_count cells
no_indices [] e = refl
no_indices (c ∷ cells) e = absurd (omega (arith, e))

some_poly : (later binary : Bool) (cells : List (List ℕ)) → 0 < length cells → parts_text later binary cells ≡ poly_text later binary cells
some_poly later binary [] lt = absurd (omega (arith, lt))
some_poly later binary (c ∷ cells) lt = refl

-- with a cell there are the parts
pub some_cells : (later binary : Bool) (cells : List (List ℕ)) (t : Tally) → AreCounted cells t → (cell_count t ≡ 0 → ⊥) → parts_text later binary cells ≡ poly_text later binary cells
some_cells later binary cells t is some =
    let count = all_count cells t is in
    some_poly later binary cells (omega (arith, count, some))

-- the text of the cells is that of a grid where there are tetrahedra
pub cells_are_grid : (later binary : Bool) (cells : List (List ℕ)) (t : Tally) → AreCounted cells t → (t.tetrahedra ≡ 0 → ⊥) → grid_text later binary cells ≡ cells_text later binary cells
cells_are_grid later binary cells t is some =
    let e : has_tetrahedra cells ≡ true = has_some cells ∙ lt-ltb 0 (length (of_size 4 cells)) (omega (arith, some, is.tetrahedra)) in
    sym (ap (λ (b : Bool). if b then grid_text later binary cells else poly_text later binary cells) e)

-- and that of polydata where there are none
pub cells_are_poly : (later binary : Bool) (cells : List (List ℕ)) (t : Tally) → AreCounted cells t → t.tetrahedra ≡ 0 → poly_text later binary cells ≡ cells_text later binary cells
cells_are_poly later binary cells t is none =
    let e : has_tetrahedra cells ≡ false = has_some cells ∙ ap (λ (k : ℕ). nat_lt 0 k) (sym is.tetrahedra ∙ none) in
    sym (ap (λ (b : Bool). if b then grid_text later binary cells else poly_text later binary cells) e)
