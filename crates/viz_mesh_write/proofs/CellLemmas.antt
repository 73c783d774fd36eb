-- A pass over the cells of a sheet, and over the sheets, one more at a time.
use Rattle.std.proofs.Common.{◌≡◌, get_or, ℕ, pos, true, false, ◌+◌, ◌<◌, ◌^◌, List, [], ◌∷◌, ◌++◌, length, get_or, map, drop, refl, sym, ap, ap₂, ◌∙◌, append_assoc, arith}
use Rattle.std.specs.List.{All, flat_map}
use Rattle.std.specs.Fmt.{decimal}
use Rattle.std.proofs.lemmas.List.{drop_more, length-map}
use Rattle.std.proofs.lemmas.List.Folds.{flat_map-map}
use Rattle.std.proofs.lemmas.List.Elements.{All-head, All-tail, All-weaker}
use Rattle.viz_column.specs.declared.kind.Kind8.TheVariants.{I32, I64}
use Rattle.viz_column.specs.Bytes.{bytes_of}
use Rattle.viz_image_write.specs.ImageText.{spaced_number}
use Rattle.viz_image_write.proofs.RowLemmas.{behind_space}
use Rattle.viz_sheet.specs.Sheet.{AreAscending}
use Rattle.viz_sheet.specs.Ranked.{IsCell, by_names, ranks_of}
use Rattle.viz_sheet.proofs.RankLemmas.{ranks-at}
use Rattle.viz_mesh_write.specs.Cells.{moved}
use Rattle.viz_mesh_write.specs.Steps.Passes.{IsMovable, index_text, index_bytes, long_bytes, cell_row, cell_rows}
use Rattle.viz_mesh_write.specs.Steps.SheetCells.{CellsData, total_points, points_by}

words_are : (first : ℕ) (ranks : List ℕ) → flat_map (index_text first) ranks ≡ flat_map spaced_number (map (λ (n : ℕ). pos n) (moved first ranks))
words_are first ranks =
    sym (flat_map-map spaced_number (λ (n : ℕ). pos n) (moved first ranks) ∙ flat_map-map (λ (n : ℕ). spaced_number (pos n)) (λ r. first + r) ranks)

row_is : (first : ℕ) (ranks : List ℕ) → decimal (length ranks) ++ flat_map (index_text first) ranks ≡ decimal (length (moved first ranks)) ++ flat_map spaced_number (map (λ (n : ℕ). pos n) (moved first ranks))
row_is first ranks =
    ap₂ (λ (s t : List ℕ). s ++ t) (ap decimal (sym (length-map ranks (λ r. first + r)))) (words_are first ranks)

-- a cell is written in words
pub cell_words : (first : ℕ) (ranks behind line indices new : List ℕ) → line ≡ 10 ∷ behind
    → indices ≡ flat_map (index_text first) ranks ++ line → new ≡ decimal (length ranks) ++ indices
    → new ≡ cell_row false false first ranks ++ behind
cell_words first ranks behind line indices new e f h =
    let count = decimal (length ranks) in
    let words = flat_map (index_text first) ranks in
    let numbers = decimal (length (moved first ranks))
    ++ flat_map spaced_number (map (λ (n : ℕ). pos n) (moved first ranks)) in
    h ∙ ap (λ (t : List ℕ). count ++ t) (f ∙ ap (λ (t : List ℕ). words ++ t) e)
    ∙ sym (append_assoc count words (10 ∷ behind))
    ∙ ap (λ (t : List ℕ). t ++ 10 ∷ behind) (row_is first ranks)
    ∙ sym (append_assoc numbers (10 ∷ []) behind)

-- a cell is written in bytes
pub cell_bytes : (first : ℕ) (ranks behind indices new : List ℕ)
    → indices ≡ flat_map (index_bytes first) ranks ++ behind
    → new ≡ bytes_of I32 (pos (length ranks)) ++ indices
    → new ≡ cell_row false true first ranks ++ behind
cell_bytes first ranks behind indices new e f =
    let number : ℕ → List ℕ = λ (n : ℕ). bytes_of I32 (pos n) in
    f ∙ ap (λ (t : List ℕ). number (length ranks) ++ t) e
    ∙ sym (append_assoc (number (length ranks)) (flat_map (index_bytes first) ranks) behind)
    ∙ ap₂ (λ (s t : List ℕ). s ++ t ++ behind) (ap number (sym (length-map ranks (λ r. first + r))))
    (sym (flat_map-map (bytes_of I32) (λ (n : ℕ). pos n) (moved first ranks)
    ∙ flat_map-map number (λ r. first + r) ranks))

-- the indices of a cell are written in words: one step behind the space in front of the first
pub line_words : (first : ℕ) (ranks behind line : List ℕ) (at : ℕ) (block : List ℕ) → 0 < length ranks → line ≡ 10 ∷ behind → drop at block ≡ flat_map (index_text first) ranks ++ line
    → drop (at + 1) block ≡ cell_row true false first ranks ++ behind
line_words first [] behind line at block some e f = absurd (omega (arith, some))
line_words first (r ∷ ranks) behind line at block some e f =
    let front = decimal (first + r) in
    let words = flat_map (index_text first) ranks in
    let numbers = flat_map spaced_number (map (λ (n : ℕ). pos n) (moved first ranks)) in
    behind_space at block (((32 ∷ front) ++ words) ++ line) f
    ∙ ap₂ (λ (s t : List ℕ). (front ++ s) ++ t) (words_are first ranks) e
    ∙ sym (append_assoc (front ++ numbers) (10 ∷ []) behind)

-- without an index there is no such space
pub line_empty : (first : ℕ) (ranks behind line : List ℕ) (at : ℕ) (block : List ℕ) → length ranks ≡ 0 → line ≡ 10 ∷ behind → drop at block ≡ flat_map (index_text first) ranks ++ line
    → drop at block ≡ cell_row true false first ranks ++ behind
line_empty first [] behind line at block none e f = f ∙ e
line_empty first (r ∷ ranks) behind line at block none e f = absurd (omega (arith, none))

-- the indices of a cell are written in bytes
pub line_bytes : (first : ℕ) (ranks behind new : List ℕ) → new ≡ flat_map (long_bytes first) ranks ++ behind → new ≡ cell_row true true first ranks ++ behind
line_bytes first ranks behind new e =
    e ∙ ap (λ (t : List ℕ). t ++ behind) (sym (flat_map-map (bytes_of I64) (λ (n : ℕ). pos n) (moved first ranks) ∙ flat_map-map (λ (n : ℕ). bytes_of I64 (pos n)) (λ r. first + r) ranks))

-- the ranks of cells by names are the cells by ranks
pub ranks_again : (names : List (List ℕ)) (cells : List (List ℕ)) → AreAscending names → All (IsCell (length names)) cells → map (ranks_of names) (by_names names cells) ≡ cells
ranks_again names [] s h = refl
ranks_again names (c ∷ cells) s h =
    let one = (All-head (IsCell (length names)) c cells h).below in
    ap₂ (λ (x : List ℕ) (xs : List (List ℕ)). x ∷ xs) (sym (ranks-at names c s one)) (ranks_again names cells s (All-tail (IsCell (length names)) c cells h))

-- cells can be written where all their points have small indices
pub movable : (first count : ℕ) (cells : List (List ℕ)) → first + count < 2 ^ 31 → All (IsCell count) cells → All (IsMovable first) cells
movable first count cells few h =
    All-weaker (IsCell count) (IsMovable first) (λ c is. record {
      most = is.most;
      below = All-weaker (λ r. r < count) (λ r. first + r < 2 ^ 31) (λ r lt. omega (arith, few, lt)) c is.below;
    }) cells h

-- the sheet that is next, and those behind it
next_sheet : {X : Type 0} (seen : X → CellsData) (sheets : List X) (i : ℕ) (s : X) → i < length sheets → s ≡ get_or sheets i s → map seen (drop i sheets) ≡ seen s ∷ map seen (drop (i + 1) sheets)
next_sheet {X} seen sheets i s lt is =
    ap (map seen) (drop_more sheets i s lt ∙ ap (λ (t : X). t ∷ drop (i + 1) sheets) (sym is))

-- the points of one sheet more stand in front
pub first_more : {X : Type 0} (seen : X → CellsData) (total first : ℕ) (sheets : List X) (i : ℕ) (s : X) → i < length sheets → s ≡ get_or sheets i s → first + points_by seen (drop i sheets) ≡ total
    → (first + (seen s).points) + points_by seen (drop (i + 1) sheets) ≡ total
first_more seen total first sheets i s lt is so_far =
    let e : points_by seen (drop i sheets) ≡ (seen s).points + points_by seen (drop (i + 1) sheets) =
    ap total_points (next_sheet seen sheets i s lt is) in
    omega (arith, e, so_far)

-- the cells of one sheet more are written
pub sheet_cells_more : {X : Type 0} (seen : X → CellsData) (row : ℕ → List ℕ → List ℕ) (text new all : List ℕ) (first : ℕ) (sheets : List X) (i : ℕ) (s : X) → i < length sheets → s ≡ get_or sheets i s
    → text ++ cell_rows row first (map seen (drop i sheets)) ≡ all → new ≡ text ++ flat_map (row first) (seen s).cells
    → new ++ cell_rows row (first + (seen s).points) (map seen (drop (i + 1) sheets)) ≡ all
sheet_cells_more seen row text new all first sheets i s lt is so_far put =
    let here = flat_map (row first) (seen s).cells in
    let rest = cell_rows row (first + (seen s).points) (map seen (drop (i + 1) sheets)) in
    ap (λ (t : List ℕ). t ++ rest) put ∙ append_assoc text here rest ∙ sym (ap (λ (ss : List CellsData). text ++ cell_rows row first ss) (next_sheet seen sheets i s lt is)) ∙ so_far
