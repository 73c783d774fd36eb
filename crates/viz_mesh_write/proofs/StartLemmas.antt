-- Where cells begin is the offsets of the cells by indices.
use Rattle.std.proofs.Common.{◌≡◌, get_or, ℕ, ◌+◌, ◌<◌, ◌≤◌, ◌^◌, ◌==◌, Bool, true, false, List, [], ◌∷◌, ◌++◌, length, map, drop, refl, sym, ap, ap₂, ◌∙◌, append-nil, append_assoc, arith}
use Rattle.std.specs.Prelude.{cond, Option, Some, None}
use Rattle.std.specs.List.{All, flat_map, filter}
use Rattle.std.proofs.lemmas.List.{drop_more, drop_all, length-map}
use Rattle.std.proofs.lemmas.List.Elements.{All-nil, All-cons, filter-append}
use Rattle.viz_column.specs.declared.kind.Kind8.TheVariants.{I64}
use Rattle.viz_mesh_write.specs.Cells.{moved}
use Rattle.viz_mesh_write.specs.Rows.{row_of}
use Rattle.viz_mesh_write.specs.Sections.{index_count, offsets_from, offsets_of, offset_row}
use Rattle.viz_mesh_write.specs.Steps.Passes.{IsMovable, is_kept, kept, kept_row}
use Rattle.viz_mesh_write.specs.Steps.SheetCells.{CellsData, indices_from}
use Rattle.viz_mesh_write.specs.Steps.Starts.{count_by, starts_by, count_in, starts_in, count_all, starts_all, as_cell}

-- how many offsets
pub offset_count : (n : ℕ) (cells : List (List ℕ)) → length (offsets_from n cells) ≡ length cells + 1
offset_count n [] = refl
offset_count n (c ∷ cells) =
    let rest = offset_count (n + length c) cells in
    omega (arith, rest)

-- one cell more that is kept
pub kept_more : {X : Type 0} (list : X → List ℕ) (size : Option ℕ) (n : ℕ) (cells : List X) (i : ℕ) (x : X) (old new all : List (List ℕ)) → i < length cells → x ≡ get_or cells i x → is_kept size (list x) ≡ true
    → old ++ starts_by list size n (drop i cells) ≡ all → new ≡ old ++ (n ∷ []) ∷ [] → new ++ starts_by list size (n + length (list x)) (drop (i + 1) cells) ≡ all
kept_more {X} list size n cells i x old new all lt is keeps so_far put =
    let rest = drop (i + 1) cells in
    let next : drop i cells ≡ x ∷ rest = drop_more cells i x lt ∙ ap (λ (y : X). y ∷ rest) (sym is) in
    let behind = starts_by list size (n + length (list x)) rest in
    let here : starts_by list size n (drop i cells) ≡ (n ∷ []) ∷ behind =
    ap (starts_by list size n) next ∙ ap (λ (b : Bool). cond b ((n ∷ []) ∷ behind) (starts_by list size n rest)) keeps in
    ap (λ (t : List (List ℕ)). t ++ behind) put ∙ append_assoc old ((n ∷ []) ∷ []) behind ∙ ap (λ (t : List (List ℕ)). old ++ t) (sym here) ∙ so_far

-- one that isn't
pub left_more : {X : Type 0} (list : X → List ℕ) (size : Option ℕ) (n : ℕ) (cells : List X) (i : ℕ) (x : X) (old all : List (List ℕ)) → i < length cells → x ≡ get_or cells i x → is_kept size (list x) ≡ false
    → old ++ starts_by list size n (drop i cells) ≡ all → old ++ starts_by list size n (drop (i + 1) cells) ≡ all
left_more {X} list size n cells i x old all lt is leaves so_far =
    let rest = drop (i + 1) cells in
    let next : drop i cells ≡ x ∷ rest = drop_more cells i x lt ∙ ap (λ (y : X). y ∷ rest) (sym is) in
    let here : starts_by list size n (drop i cells) ≡ starts_by list size n rest =
    ap (starts_by list size n) next ∙ ap (λ (b : Bool). cond b ((n ∷ []) ∷ starts_by list size (n + length (list x)) rest) (starts_by list size n rest)) leaves in
    ap (λ (t : List (List ℕ)). old ++ t) (sym here) ∙ so_far

-- the indices of one cell more
pub count_kept : {X : Type 0} (list : X → List ℕ) (size : Option ℕ) (cells : List X) (i : ℕ) (x : X) → i < length cells → x ≡ get_or cells i x → is_kept size (list x) ≡ true
    → count_by list size (drop i cells) ≡ length (list x) + count_by list size (drop (i + 1) cells)
count_kept {X} list size cells i x lt is keeps =
    let rest = drop (i + 1) cells in
    ap (count_by list size) (drop_more cells i x lt ∙ ap (λ (y : X). y ∷ rest) (sym is))
    ∙ ap (λ (b : Bool). cond b (length (list x) + count_by list size rest) (count_by list size rest)) keeps

pub count_left : {X : Type 0} (list : X → List ℕ) (size : Option ℕ) (cells : List X) (i : ℕ) (x : X) → i < length cells → x ≡ get_or cells i x → is_kept size (list x) ≡ false
    → count_by list size (drop i cells) ≡ count_by list size (drop (i + 1) cells)
count_left {X} list size cells i x lt is leaves =
    let rest = drop (i + 1) cells in
    ap (count_by list size) (drop_more cells i x lt ∙ ap (λ (y : X). y ∷ rest) (sym is))
    ∙ ap (λ (b : Bool). cond b (length (list x) + count_by list size rest) (count_by list size rest)) leaves

-- the sheet that is next, and those behind it
next_sheet : {X : Type 0} (seen : X → CellsData) (sheets : List X) (i : ℕ) (s : X) → i < length sheets → s ≡ get_or sheets i s → map seen (drop i sheets) ≡ seen s ∷ map seen (drop (i + 1) sheets)
next_sheet {X} seen sheets i s lt is =
    ap (map seen) (drop_more sheets i s lt ∙ ap (λ (t : X). t ∷ drop (i + 1) sheets) (sym is))

-- the cells of one sheet more
pub sheet_starts_more : {X : Type 0} (seen : X → CellsData) (size : Option ℕ) (n : ℕ) (sheets : List X) (i : ℕ) (s : X) (old new all : List (List ℕ)) (m : ℕ) → i < length sheets → s ≡ get_or sheets i s
    → old ++ starts_all size n (map seen (drop i sheets)) ≡ all → new ≡ old ++ starts_in size n (seen s).cells → m ≡ n + count_in size (seen s).cells
    → new ++ starts_all size m (map seen (drop (i + 1) sheets)) ≡ all
sheet_starts_more seen size n sheets i s old new all m lt is so_far put next =
    let here = starts_in size n (seen s).cells in
    let behind : ℕ → List (List ℕ) = λ k. starts_all size k (map seen (drop (i + 1) sheets)) in
    ap₂ (λ (t : List (List ℕ)) (k : ℕ). t ++ behind k) put next ∙ append_assoc old here (behind (n + count_in size (seen s).cells))
    ∙ sym (ap (λ (ss : List CellsData). old ++ starts_all size n ss) (next_sheet seen sheets i s lt is)) ∙ so_far

pub sheet_count_more : {X : Type 0} (seen : X → CellsData) (size : Option ℕ) (sheets : List X) (i : ℕ) (s : X) → i < length sheets → s ≡ get_or sheets i s
    → count_all size (map seen (drop i sheets)) ≡ count_in size (seen s).cells + count_all size (map seen (drop (i + 1) sheets))
sheet_count_more seen size sheets i s lt is = ap (count_all size) (next_sheet seen sheets i s lt is)

-- once no sheet is left, all stand there
pub starts_end : {X : Type 0} (seen : X → CellsData) (size : Option ℕ) (sheets : List X) (i n total : ℕ) (old new all : List (List ℕ)) → length sheets ≤ i → old ++ starts_all size n (map seen (drop i sheets)) ≡ all
    → n + count_all size (map seen (drop i sheets)) ≡ total → new ≡ old ++ (n ∷ []) ∷ [] → new ≡ all ++ (total ∷ []) ∷ []
starts_end {X} seen size sheets i n total old new all most so_far next put =
    let none : drop i sheets ≡ [] = drop_all i sheets most in
    let count : count_all size (map seen (drop i sheets)) ≡ 0 = ap (λ (xs : List X). count_all size (map seen xs)) none in
    let is : n ≡ total = omega (arith, count, next) in
    let left : old ≡ all = sym (append-nil old) ∙ ap (λ (xs : List X). old ++ starts_all size n (map seen xs)) (sym none) ∙ so_far in
    put ∙ ap₂ (λ (t : List (List ℕ)) (k : ℕ). t ++ (k ∷ []) ∷ []) left is

same_kept : (size : Option ℕ) (c d : List ℕ) → length c ≡ length d → is_kept size c ≡ is_kept size d
same_kept None c d e = refl
same_kept (Some n) c d e = ap (λ (k : ℕ). k == n) e

kept_is : (size : Option ℕ) (cells : List (List ℕ)) → kept size cells ≡ filter (is_kept size) cells
kept_is None [] = refl
kept_is None (c ∷ cells) = ap (λ (cs : List (List ℕ)). c ∷ cs) (kept_is None cells)
kept_is (Some n) cells = refl

shifted : (n a b : ℕ) → (n + a) + b ≡ n + (a + b)
shifted n a b = omega arith

-- the offsets of cells behind those of a sheet
cell_step : (b : Bool) (n count : ℕ) (c d : List ℕ) (cells tail : List (List ℕ)) (starts : ℕ → List (List ℕ)) → length d ≡ length c
    → ((m : ℕ) → starts m ++ map as_cell (offsets_from (m + count) tail) ≡ map as_cell (offsets_from m (cells ++ tail)))
    → cond b ((n ∷ []) ∷ starts (n + length c)) (starts n) ++ map as_cell (offsets_from (n + cond b (length c + count) count) tail) ≡ map as_cell (offsets_from n (cond b (d ∷ cells) cells ++ tail))
cell_step true n count c d cells tail starts same rest =
    ap (λ (k : ℕ). (n ∷ []) ∷ (starts (n + length c) ++ map as_cell (offsets_from k tail))) (sym (shifted n (length c) count))
    ∙ ap (λ (t : List (List ℕ)). (n ∷ []) ∷ t) (rest (n + length c) ∙ ap (λ (k : ℕ). map as_cell (offsets_from (n + k) (cells ++ tail))) (sym same))
cell_step false n count c d cells tail starts same rest = rest n

cells_behind : (size : Option ℕ) (first : ℕ) (cells tail : List (List ℕ)) (n : ℕ)
    → starts_in size n cells ++ map as_cell (offsets_from (n + count_in size cells) tail) ≡ map as_cell (offsets_from n (filter (is_kept size) (map (moved first) cells) ++ tail))
cells_behind size first [] tail n =
    let none : n + 0 ≡ n = omega arith in
    ap (λ (k : ℕ). map as_cell (offsets_from k tail)) none
cells_behind size first (c ∷ cells) tail n =
    let same = length-map c (λ r. first + r) in
    let more = filter (is_kept size) (map (moved first) cells) in
    cell_step (is_kept size c) n (count_in size cells) c (moved first c) more tail (λ k. starts_in size k cells) same (λ k. cells_behind size first cells tail k)
    ∙ ap (λ (b : Bool). map as_cell (offsets_from n (cond b (moved first c ∷ more) more ++ tail))) (sym (same_kept size (moved first c) c same))

sheets_behind : (size : Option ℕ) (first : ℕ) (sheets : List CellsData) (n : ℕ)
    → starts_all size n sheets ++ as_cell (n + count_all size sheets) ∷ [] ≡ map as_cell (offsets_from n (filter (is_kept size) (indices_from first sheets)))
sheets_behind size first [] n =
    let none : n + 0 ≡ n = omega arith in
    ap (λ (k : ℕ). as_cell k ∷ []) none
sheets_behind size first (s ∷ sheets) n =
    let here = starts_in size n s.cells in
    let count = count_in size s.cells in
    let rest = starts_all size (n + count) sheets in
    let next = first + s.points in
    append_assoc here rest (as_cell (n + (count + count_all size sheets)) ∷ [])
    ∙ ap (λ (k : ℕ). here ++ (rest ++ as_cell k ∷ [])) (sym (shifted n count (count_all size sheets)))
    ∙ ap (λ (t : List (List ℕ)). here ++ t) (sheets_behind size next sheets (n + count))
    ∙ cells_behind size first s.cells (filter (is_kept size) (indices_from next sheets)) n
    ∙ sym (ap (λ (cs : List (List ℕ)). map as_cell (offsets_from n cs)) (filter-append (is_kept size) (map (moved first) s.cells) (indices_from next sheets)))

-- where the cells of all sheets begin, and how many indices there are, are the offsets
pub starts_are : (size : Option ℕ) (sheets : List CellsData)
    → starts_all size 0 sheets ++ (count_all size sheets ∷ []) ∷ [] ≡ map as_cell (offsets_of (kept size (indices_from 0 sheets)))
starts_are size sheets =
    let front : count_all size sheets ≡ 0 + count_all size sheets = omega arith in
    ap (λ (k : ℕ). starts_all size 0 sheets ++ as_cell k ∷ []) front ∙ sheets_behind size 0 sheets 0 ∙ sym (ap (λ (cs : List (List ℕ)). map as_cell (offsets_of cs)) (kept_is size (indices_from 0 sheets)))

cell_counts : (b : Bool) (c d : List ℕ) (cells : List (List ℕ)) (count : ℕ) → length d ≡ length c → count ≡ index_count cells → cond b (length c + count) count ≡ index_count (cond b (d ∷ cells) cells)
cell_counts true c d cells count same rest = ap₂ (λ (a b : ℕ). a + b) (sym same) rest
cell_counts false c d cells count same rest = rest

cells_count : (size : Option ℕ) (first : ℕ) (cells : List (List ℕ)) → count_in size cells ≡ index_count (filter (is_kept size) (map (moved first) cells))
cells_count size first [] = refl
cells_count size first (c ∷ cells) =
    let same = length-map c (λ r. first + r) in
    let more = filter (is_kept size) (map (moved first) cells) in
    cell_counts (is_kept size c) c (moved first c) more (count_in size cells) same (cells_count size first cells)
    ∙ ap (λ (b : Bool). index_count (cond b (moved first c ∷ more) more)) (sym (same_kept size (moved first c) c same))

index_more : (xs ys : List (List ℕ)) → index_count (xs ++ ys) ≡ index_count xs + index_count ys
index_more [] ys = omega arith
index_more (x ∷ xs) ys =
    let rest = index_more xs ys in
    omega (arith, rest)

sheets_count : (size : Option ℕ) (first : ℕ) (sheets : List CellsData) → count_all size sheets ≡ index_count (filter (is_kept size) (indices_from first sheets))
sheets_count size first [] = refl
sheets_count size first (s ∷ sheets) =
    let next = first + s.points in
    let test = is_kept size in
    let here = map (moved first) s.cells in
    let rest = indices_from next sheets in
    ap₂ (λ (a b : ℕ). a + b) (cells_count size first s.cells) (sheets_count size next sheets)
    ∙ sym (ap index_count (filter-append test here rest) ∙ index_more (filter test here) (filter test rest))

-- how many indices the kept cells have
pub count_is : (size : Option ℕ) (sheets : List CellsData) → count_all size sheets ≡ index_count (kept size (indices_from 0 sheets))
count_is size sheets = sheets_count size 0 sheets ∙ sym (ap index_count (kept_is size (indices_from 0 sheets)))

one_movable : (n : ℕ) → n < 2 ^ 31 → IsMovable 0 (as_cell n)
one_movable n few = record {
  most = omega arith;
  below = All-cons (λ r. 0 + r < 2 ^ 31) n [] (omega (arith, few)) (All-nil (λ r. 0 + r < 2 ^ 31));
}

-- offsets can be written as cells of one index
pub are_movable : (n : ℕ) (cells : List (List ℕ)) → n + index_count cells < 2 ^ 31 → All (IsMovable 0) (map as_cell (offsets_from n cells))
are_movable n [] few =
    All-cons (IsMovable 0) (as_cell n) [] (one_movable n (omega (arith, few))) (All-nil (IsMovable 0))
are_movable n (c ∷ cells) few =
    All-cons (IsMovable 0) (as_cell n) (map as_cell (offsets_from (n + length c) cells)) (one_movable n (omega (arith, few)))
    (are_movable (n + length c) cells (omega (arith, few)))

-- their rows are those of such cells
pub offset_rows : (binary : Bool) (offsets : List ℕ) → flat_map (kept_row None true binary 0) (map as_cell offsets) ≡ flat_map (λ k. row_of binary I64 (offset_row k)) offsets
offset_rows binary [] = refl
offset_rows binary (n ∷ offsets) =
    let front : 0 + n ≡ n = omega arith in
    ap₂ (λ (s t : List ℕ). s ++ t) (ap (λ (k : ℕ). row_of binary I64 (offset_row k)) front) (offset_rows binary offsets)
