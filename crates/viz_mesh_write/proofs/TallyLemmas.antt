-- Counts of cells by their sizes, and the numbers of sections.
use Rattle.std.proofs.Common.{eqb-true, lt-ltb, ltb-true, ltb-false, mul-suc, rules, pos, ◌≡◌, ℕ, suc, ◌+◌, ◌*◌, ◌<◌, ◌≤◌, ◌^◌, ◌==◌, ◌||◌, nat_lt, Bool, true, false, List, [], ◌∷◌, length, get_or, map, take, refl, sym, ap, ap₂, subst, ◌∙◌, arith}
use Rattle.std.specs.Prelude.{cond, if◌then◌else◌}
use Rattle.std.specs.List.{All, flat_map, filter}
use Rattle.std.proofs.lemmas.List.{length-map, length-append}
use Rattle.std.proofs.lemmas.List.Elements.{All-nil, All-cons, All-head, All-tail, All-append, All-map, All-weaker, filter-append}
use Rattle.viz_sheet.specs.Sheet.{SheetData, IsSheet, IsNamedCell}
use Rattle.viz_sheet.specs.Ranked.{ranks_of}
use Rattle.viz_mesh_write.specs.Cells.{moved, indices_in, cells_from, cells_of, of_size, has_tetrahedra, points_of}
use Rattle.viz_mesh_write.specs.MeshText.{cell_numbers, size_of}
use Rattle.viz_mesh_write.specs.Fits.{FitCounts}
use Rattle.viz_mesh_write.specs.Steps.Tallies.{capped, IsSized, IsTally, IsCapped, AreSmall, SectionsFit}
use Rattle.viz_mesh_write.specs.declared.tally.Tally.{Tally}
use Rattle.viz_mesh_write.proofs.PointLemmas.{flat_take}

-- a cell by indices has as many points as by names
pub length-moved : (first : ℕ) (names : List (List ℕ)) (cell : List (List ℕ)) → length (moved first (ranks_of names cell)) ≡ length cell
length-moved first names cell = length-map (ranks_of names cell) (λ r. first + r) ∙ length-map cell _

sheet_sized : (first : ℕ) (s : SheetData) → IsSheet s → All IsSized (indices_in first s)
sheet_sized first s h =
    All-map IsSized (λ (cell : List (List ℕ)). moved first (ranks_of s.names cell)) s.cells
    (All-weaker IsNamedCell (λ cell. IsSized (moved first (ranks_of s.names cell))) (λ cell is. record {
      some = subst (λ (n : ℕ). 1 ≤ n) (sym (length-moved first s.names cell)) is.some;
      most = subst (λ (n : ℕ). n ≤ 4) (sym (length-moved first s.names cell)) is.most;
    }) s.cells h.each)

-- the cells of sheets have 1 to 4 points
pub cells_sized : (first : ℕ) (sheets : List SheetData) → All IsSheet sheets → All IsSized (cells_from first sheets)
cells_sized first [] h = All-nil IsSized
cells_sized first (s ∷ sheets) h =
    All-append IsSized (indices_in first s) (cells_from (first + length s.points) sheets) (sheet_sized first s (All-head IsSheet s sheets h)) (cells_sized (first + length s.points) sheets (All-tail IsSheet s sheets h))

length-cond : {Y Z : Type 0} (b : Bool) (y : Y) (ys : List Y) (z : Z) (zs : List Z) → length ys ≡ length zs → length (cond b (y ∷ ys) ys) ≡ length (cond b (z ∷ zs) zs)
length-cond true y ys z zs e = ap suc e
length-cond false y ys z zs e = e

-- as many cells of a size by indices as by ranks
sheet_count : (n first : ℕ) (names : List (List ℕ)) (cells : List (List (List ℕ))) → length (of_size n (map (λ cell. moved first (ranks_of names cell)) cells)) ≡ length (of_size n (map (ranks_of names) cells))
sheet_count n first names [] = refl
sheet_count n first names (c ∷ cells) =
    let here = ranks_of names c in
    let there = moved first here in
    let rest = of_size n (map (λ cell. moved first (ranks_of names cell)) cells) in
    let same : length there ≡ length here = length-map here (λ r. first + r) in
    ap (λ (k : ℕ). length (cond (k == n) (there ∷ rest) rest)) same ∙ length-cond (length here == n) there rest here (of_size n (map (ranks_of names) cells)) (sheet_count n first names cells)

-- the cells of sheets by ranks
by_ranks : List SheetData → List (List ℕ)
by_ranks sheets = flat_map (λ s. map (ranks_of s.names) s.cells) sheets

count_by_ranks : (n first : ℕ) (sheets : List SheetData) → length (of_size n (cells_from first sheets)) ≡ length (of_size n (flat_map (λ s. map (ranks_of s.names) s.cells) sheets))
count_by_ranks n first [] = refl
count_by_ranks n first (s ∷ sheets) =
    let test : List ℕ → Bool = λ (cell : List ℕ). length cell == n in
    let here = map (ranks_of s.names) s.cells in
    let rest = cells_from (first + length s.points) sheets in
    let others = flat_map (λ (t : SheetData). map (ranks_of t.names) t.cells) sheets in
    ap length (filter-append test (indices_in first s) rest) ∙ length-append (filter test (indices_in first s)) (filter test rest)
    ∙ ap₂ (λ (a b : ℕ). a + b) (sheet_count n first s.names s.cells) (count_by_ranks n (first + length s.points) sheets)
    ∙ sym (ap length (filter-append test here others) ∙ length-append (filter test here) (filter test others))

-- one sheet more is counted
pub count_more : (n count more : ℕ) (sheets : List SheetData) (i : ℕ) (s : SheetData) → i < length sheets → s ≡ get_or sheets i s
    → count ≡ capped (length (of_size n (cells_of (take i sheets)))) → more ≡ length (of_size n (map (ranks_of s.names) s.cells))
    → capped (count + more) ≡ capped (length (of_size n (cells_of (take (i + 1) sheets))))
count_more n count more sheets i s lt is so_far here =
    let test : List ℕ → Bool = λ (cell : List ℕ). length cell == n in
    let f : SheetData → List (List ℕ) = λ (t : SheetData). map (ranks_of t.names) t.cells in
    let before = flat_map f (take i sheets) in
    let grown : length (of_size n (cells_of (take (i + 1) sheets))) ≡ length (of_size n (cells_of (take i sheets))) + length (of_size n (f s)) =
    count_by_ranks n 0 (take (i + 1) sheets) ∙ ap (λ (cells : List (List ℕ)). length (of_size n cells)) (flat_take f sheets i s lt is)
    ∙ ap length (filter-append test before (f s)) ∙ length-append (filter test before) (filter test (f s))
    ∙ ap (λ (k : ℕ). k + length (of_size n (f s))) (sym (count_by_ranks n 0 (take i sheets))) in
    omega (arith, grown, so_far, here)

size_step : (c : List ℕ) (cells : List (List ℕ)) → IsSized c
    → size_of cells ≡ 2 * length (of_size 1 cells) + 3 * length (of_size 2 cells) + 4 * length (of_size 3 cells) + 5 * length (of_size 4 cells)
    → size_of (c ∷ cells) ≡ 2 * length (of_size 1 (c ∷ cells)) + 3 * length (of_size 2 (c ∷ cells)) + 4 * length (of_size 3 (c ∷ cells)) + 5 * length (of_size 4 (c ∷ cells))
size_step [] cells is e = let h = is.some in absurd (omega (arith, h))
size_step (a ∷ []) cells is e = omega (arith, e)
size_step (a ∷ b ∷ []) cells is e = omega (arith, e)
size_step (a ∷ b ∷ c ∷ []) cells is e = omega (arith, e)
size_step (a ∷ b ∷ c ∷ d ∷ []) cells is e = omega (arith, e)
size_step (a ∷ b ∷ c ∷ d ∷ x ∷ xs) cells is e = let h = is.most in absurd (omega (arith, h))

-- the numbers of all cells, by size
pub size_by_sizes : (cells : List (List ℕ)) → All IsSized cells → size_of cells ≡ 2 * length (of_size 1 cells) + 3 * length (of_size 2 cells) + 4 * length (of_size 3 cells) + 5 * length (of_size 4 cells)
size_by_sizes [] h = refl
size_by_sizes (c ∷ cells) h =
    size_step c cells (All-head IsSized c cells h) (size_by_sizes cells (All-tail IsSized c cells h))

count_step : (c : List ℕ) (cells : List (List ℕ)) → IsSized c → length cells ≡ length (of_size 1 cells) + length (of_size 2 cells) + length (of_size 3 cells) + length (of_size 4 cells)
    → length (c ∷ cells) ≡ length (of_size 1 (c ∷ cells)) + length (of_size 2 (c ∷ cells)) + length (of_size 3 (c ∷ cells)) + length (of_size 4 (c ∷ cells))
count_step [] cells is e = let h = is.some in absurd (omega (arith, h))
count_step (a ∷ []) cells is e = omega (arith, e)
count_step (a ∷ b ∷ []) cells is e = omega (arith, e)
count_step (a ∷ b ∷ c ∷ []) cells is e = omega (arith, e)
count_step (a ∷ b ∷ c ∷ d ∷ []) cells is e = omega (arith, e)
count_step (a ∷ b ∷ c ∷ d ∷ x ∷ xs) cells is e = let h = is.most in absurd (omega (arith, h))

-- all cells, by size
pub count_by_sizes : (cells : List (List ℕ)) → All IsSized cells → length cells ≡ length (of_size 1 cells) + length (of_size 2 cells) + length (of_size 3 cells) + length (of_size 4 cells)
count_by_sizes [] h = refl
count_by_sizes (c ∷ cells) h =
    count_step c cells (All-head IsSized c cells h) (count_by_sizes cells (All-tail IsSized c cells h))

-- the numbers of one cell more
pub size_cons : (c : List ℕ) (cells : List (List ℕ)) → size_of (c ∷ cells) ≡ suc (length c) + size_of cells
size_cons c cells =
    length-append (cell_numbers c) (flat_map cell_numbers cells) ∙ ap (λ (k : ℕ). k + size_of cells) (length-map (length c ∷ c) (λ (n : ℕ). pos n))

swapped : (a b : ℕ) → a + b ≡ b + a
swapped a b = omega arith

size_cond : (b : Bool) (n : ℕ) (c : List ℕ) (cells : List (List ℕ)) → (b ≡ true → length c ≡ n) → size_of cells ≡ suc n * length cells → size_of (cond b (c ∷ cells) cells) ≡ suc n * length (cond b (c ∷ cells) cells)
size_cond true n c cells long e =
    size_cons c cells ∙ ap₂ (λ (a b : ℕ). suc a + b) (long refl) e ∙ swapped (suc n) (suc n * length cells) ∙ sym (mul-suc (suc n) (length cells))
size_cond false n c cells long e = e

-- the numbers of the cells of one size
pub size_of_size : (n : ℕ) (cells : List (List ℕ)) → size_of (of_size n cells) ≡ suc n * length (of_size n cells)
size_of_size n [] = omega arith
size_of_size n (c ∷ cells) =
    size_cond (length c == n) n c (of_size n cells) (λ e. eqb-true (length c) n e) (size_of_size n cells)

any_cond : (b rest : Bool) (c : List ℕ) (cells : List (List ℕ)) → rest ≡ nat_lt 0 (length cells) → (b || rest) ≡ nat_lt 0 (length (cond b (c ∷ cells) cells))
any_cond true rest c cells e = sym (lt-ltb 0 (suc (length cells)) (omega arith))
any_cond false rest c cells e = e

-- a tetrahedron is there where some are counted
pub has_some : (cells : List (List ℕ)) → has_tetrahedra cells ≡ nat_lt 0 (length (of_size 4 cells))
has_some [] = refl
has_some (c ∷ cells) = any_cond (length c == 4) (has_tetrahedra cells) c (of_size 4 cells) (has_some cells)

-- the sections fit where the cells of each do
sections_all : (b : Bool) (cells : List (List ℕ)) → (b ≡ true → size_of cells < 2 ^ 31) → (b ≡ false → (size_of (of_size 1 cells) < 2 ^ 31) × (size_of (of_size 2 cells) < 2 ^ 31) × (size_of (of_size 3 cells) < 2 ^ 31))
    → All (λ c. size_of c < 2 ^ 31) (if b then cells ∷ [] else of_size 1 cells ∷ of_size 2 cells ∷ of_size 3 cells ∷ [])
sections_all true cells f g =
    let P : List (List ℕ) → Type 0 = λ c. size_of c < 2 ^ 31 in
    All-cons P cells [] (f refl) (All-nil P)
sections_all false cells f g =
    let P : List (List ℕ) → Type 0 = λ c. size_of c < 2 ^ 31 in
    let h = g refl in
    All-cons P (of_size 1 cells) (of_size 2 cells ∷ of_size 3 cells ∷ []) h.0 (All-cons P (of_size 2 cells) (of_size 3 cells ∷ []) h.1 (All-cons P (of_size 3 cells) [] h.2 (All-nil P)))

whole_fits : (b : Bool) (cells : List (List ℕ)) → All (λ c. size_of c < 2 ^ 31) (if b then cells ∷ [] else of_size 1 cells ∷ of_size 2 cells ∷ of_size 3 cells ∷ []) → b ≡ true → size_of cells < 2 ^ 31
whole_fits true cells h e = All-head (λ c. size_of c < 2 ^ 31) cells [] h
whole_fits false cells h e = search rules

parts_fit : (b : Bool) (cells : List (List ℕ)) → All (λ c. size_of c < 2 ^ 31) (if b then cells ∷ [] else of_size 1 cells ∷ of_size 2 cells ∷ of_size 3 cells ∷ []) → b ≡ false
    → (size_of (of_size 1 cells) < 2 ^ 31) × (size_of (of_size 2 cells) < 2 ^ 31) × (size_of (of_size 3 cells) < 2 ^ 31)
parts_fit true cells h e = search rules
parts_fit false cells h e =
    let P : List (List ℕ) → Type 0 = λ c. size_of c < 2 ^ 31 in
    let t = All-tail P (of_size 1 cells) (of_size 2 cells ∷ of_size 3 cells ∷ []) h in
    (All-head P (of_size 1 cells) (of_size 2 cells ∷ of_size 3 cells ∷ []) h, All-head P (of_size 2 cells) (of_size 3 cells ∷ []) t, All-head P (of_size 3 cells) [] (All-tail P (of_size 2 cells) (of_size 3 cells ∷ []) t))

-- small counts aren't capped
pub exact : (sheets : List SheetData) (t : Tally) → IsCapped sheets t → AreSmall t → IsTally sheets t
exact sheets t is small =
    record {
      points = omega (arith, is.points, small.points);
      vertices = omega (arith, is.vertices, small.vertices);
      lines = omega (arith, is.lines, small.lines);
      triangles = omega (arith, is.triangles, small.triangles);
      tetrahedra = omega (arith, is.tetrahedra, small.tetrahedra);
    }

-- small counts of sections that fit are those that may be written
pub fit_from : (sheets : List SheetData) (t : Tally) → All IsSheet sheets → IsCapped sheets t → AreSmall t → SectionsFit t → FitCounts sheets
fit_from sheets t known capped_is small sections =
    let cells = cells_of sheets in
    let is = exact sheets t capped_is small in
    let size = size_by_sizes cells (cells_sized 0 sheets known) in
    let some = has_some cells in
    let one = size_of_size 1 cells in
    let two = size_of_size 2 cells in
    let three = size_of_size 3 cells in
    record {
      points = omega (arith, is.points, small.points);
      sizes = sections_all (has_tetrahedra cells) cells
          (λ e. let above = ltb-true 0 (length (of_size 4 cells)) (sym some ∙ e) in
          let few = sections.0 (omega (arith, above, is.tetrahedra)) in
          omega (arith, size, few, is.vertices, is.lines, is.triangles, is.tetrahedra))
          (λ e. let none = ltb-false 0 (length (of_size 4 cells)) (sym some ∙ e) in
          let few = sections.1 (omega (arith, none, is.tetrahedra)) in
          (omega (arith, one, few.0, is.vertices), omega (arith, two, few.1, is.lines), omega (arith, three, few.2, is.triangles)));
    }

small_by : (b : Bool) (sheets : List SheetData) (t : Tally)
    → size_of (cells_of sheets) ≡ 2 * length (of_size 1 (cells_of sheets)) + 3 * length (of_size 2 (cells_of sheets)) + 4 * length (of_size 3 (cells_of sheets)) + 5 * length (of_size 4 (cells_of sheets))
    → b ≡ nat_lt 0 (length (of_size 4 (cells_of sheets))) → IsCapped sheets t → length (points_of sheets) < 2 ^ 31
    → (b ≡ true → size_of (cells_of sheets) < 2 ^ 31) → (b ≡ false → (size_of (of_size 1 (cells_of sheets)) < 2 ^ 31) × (size_of (of_size 2 (cells_of sheets)) < 2 ^ 31) × (size_of (of_size 3 (cells_of sheets)) < 2 ^ 31))
    → AreSmall t × SectionsFit t
small_by true sheets t size some is points whole parts =
    let few = whole refl in (
      record {
        points = omega (arith, is.points, points);
        vertices = omega (arith, is.vertices, size, few);
        lines = omega (arith, is.lines, size, few);
        triangles = omega (arith, is.triangles, size, few);
        tetrahedra = omega (arith, is.tetrahedra, size, few);
      },
      ((λ _. omega (arith, is.vertices, is.lines, is.triangles, is.tetrahedra, size, few)), (λ _. (omega (arith, is.vertices, size, few), omega (arith, is.lines, size, few), omega (arith, is.triangles, size, few)))),
    )
small_by false sheets t size some is points whole parts =
    let cells = cells_of sheets in
    let few = parts refl in
    let none = ltb-false 0 (length (of_size 4 cells)) (sym some) in
    let one = size_of_size 1 cells in
    let two = size_of_size 2 cells in
    let three = size_of_size 3 cells in (
      record {
        points = omega (arith, is.points, points);
        vertices = omega (arith, is.vertices, one, few.0);
        lines = omega (arith, is.lines, two, few.1);
        triangles = omega (arith, is.triangles, three, few.2);
        tetrahedra = omega (arith, is.tetrahedra, none);
      },
      ((λ some. absurd (omega (arith, some, is.tetrahedra, none))), (λ _. (omega (arith, is.vertices, one, few.0), omega (arith, is.lines, two, few.1), omega (arith, is.triangles, three, few.2)))),
    )

-- counts that may be written are small, and their sections fit
pub small_from : (sheets : List SheetData) (t : Tally) → All IsSheet sheets → IsCapped sheets t → FitCounts sheets → AreSmall t × SectionsFit t
small_from sheets t known is fits =
    let cells = cells_of sheets in
    let size = size_by_sizes cells (cells_sized 0 sheets known) in
    small_by (has_tetrahedra cells) sheets t size (has_some cells) is fits.points (whole_fits (has_tetrahedra cells) cells fits.sizes) (parts_fit (has_tetrahedra cells) cells fits.sizes)
