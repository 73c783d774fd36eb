-- No number of a section is wide just where none is in any cell.
use Rattle.std.proofs.Common.{◌≡◌, ◌≢◌, ℕ, ◌<◌, ◌⊎◌, inl, inr, ⊎_elim, pos, true, false, true≢false, List, [], length, get_or, slice_index_or, sym, ap, subst, ◌∙◌, arith}
use Rattle.std.specs.Prelude.{◌≤ℤ◌, ◌<ℤ◌, int_le}
use Rattle.std.specs.List.{All, Contains, flat_map}
use Rattle.std.proofs.lemmas.Bool.{cases_lt}
use Rattle.std.proofs.lemmas.Int.{ints}
use Rattle.std.proofs.lemmas.List.{get_or_default}
use Rattle.std.proofs.lemmas.List.Elements.{All-contains, All-from_get_or, Contains-get_or}
use borrow.Author.Differences.{true_is_le, false_is_le}
use Rattle.viz_fraction.specs.declared.forms.Form.{Form}
use Rattle.viz_fraction.specs.CaseRows.{End}
use Rattle.viz_fraction.specs.Forms.{value_of, IsNarrowValue}
use Rattle.viz_fraction.specs.Points.{Point}
use Rattle.viz_sheet.specs.PairNames.{AreNames}
use Rattle.viz_sheet.specs.Sheet.{SheetData, IsNamedCell, IsSheet}
use Rattle.viz_sheet.proofs.RankLemmas.{rank-at}
use Rattle.viz_meaning.specs.Names.{edge_name, greater_end, names_of}
use Rattle.viz_meaning.specs.Narrow.{IsNarrowCell, IsNarrowEdge, IsNarrowName, IsNarrowSection}
use Rattle.viz_meaning.specs.Section.{cells_in, end_name, is_inside_at, point_of, section_cells, zero_point}
use Rattle.viz_meaning.proofs.EndLemmas.{IsNamedEnd, by-ends, edge-ends, end-used}
use Rattle.viz_meaning.proofs.ListLemmas.{all-among, all-flat, all-pieces}
use Rattle.viz_meaning.proofs.NameSets.{in-each_once, of-each_once}
use Rattle.viz_meaning.proofs.SectionLemmas.{flag_of, all-cells, cells-all, corners, sized-cells}

-- ---- points

point-named : (s : SheetData) (r : ℕ) → IsSheet s → r < length s.names → point_of s (get_or s.names r []) ≡ get_or s.points r zero_point
point-named s r h l = ap (λ i. slice_index_or s.points i zero_point) (rank-at s.names r h.ascending l)

-- what holds of each point holds of the point of each name, and the other way round
of-points : (P : Point → Type 0) (s : SheetData) (n : List ℕ) → IsSheet s → All P s.points → Contains s.names n → P (point_of s n)
of-points P s n h each c =
    let is : get_or s.names c.0 [] ≡ n = get_or_default s.names c.0 [] n c.1 ∙ c.2 in
    subst (λ m. P (point_of s m)) is
    (subst P (sym (point-named s c.0 h c.1)) (each c.0 zero_point (omega (arith, h.matched, c.1))))

to-points : (P : Point → Type 0) (s : SheetData) → IsSheet s → All (All (λ n. P (point_of s n))) s.cells → All P s.points
to-points P s h each =
    All-from_get_or P s.points zero_point (λ r l.
    let below : r < length s.names = omega (arith, h.matched, l) in
    let n = get_or s.names r [] in
    subst P (point-named s r h below)
    (All-contains (λ m. P (point_of s m)) (flat_map (λ cell. cell) s.cells) n (all-flat (λ m. P (point_of s m)) s.cells each)
    ((h.used n).0 (Contains-get_or s.names r [] below))))

-- ---- edges

turned : (f : Form) (p q : Point) → IsNarrowEdge f p q → IsNarrowEdge f q p
turned f p q h = record { up = h.down; down = h.up }

-- the crossing of an edge's name is that between its ends
between : (f : Form) (s : SheetData) (m n : List ℕ) → length m ≡ length n → IsNarrowName f s (edge_name m n) → IsNarrowEdge f (point_of s m) (point_of s n)
between f s m n same h =
    let name = edge_name m n in
    ⊎_elim
    (λ p. subst (λ y. IsNarrowEdge f (point_of s m) (point_of s y)) p.1 (subst (λ x. IsNarrowEdge f (point_of s x) (point_of s (greater_end name))) p.0 h))
    (λ p. turned f (point_of s n) (point_of s m)
    (subst (λ y. IsNarrowEdge f (point_of s n) (point_of s y)) p.1 (subst (λ x. IsNarrowEdge f (point_of s x) (point_of s (greater_end name))) p.0 h)))
    (edge-ends m n same).ends

named : (f : Form) (s : SheetData) (m n : List ℕ) → length m ≡ length n → IsNarrowEdge f (point_of s m) (point_of s n) → IsNarrowName f s (edge_name m n)
named f s m n same h =
    let name = edge_name m n in
    ⊎_elim
    (λ p. subst (λ x. IsNarrowEdge f (point_of s x) (point_of s (greater_end name))) (sym p.0) (subst (λ y. IsNarrowEdge f (point_of s m) (point_of s y)) (sym p.1) h))
    (λ p. subst (λ x. IsNarrowEdge f (point_of s x) (point_of s (greater_end name))) (sym p.0)
    (subst (λ y. IsNarrowEdge f (point_of s n) (point_of s y)) (sym p.1) (turned f (point_of s m) (point_of s n) h)))
    (edge-ends m n same).ends

-- an inside point and an outside one differ
differ : (f : Form) (p q : Point) → pos 0 ≤ℤ value_of f p → value_of f q <ℤ pos 0 → is_inside_at f p ≢ is_inside_at f q
differ f p q inside outside same =
    let yes : true ≡ int_le (pos 0) (value_of f p) = true_is_le (pos 0) (value_of f p) (omega (arith, ints)) in
    let no : false ≡ int_le (pos 0) (value_of f q) = false_is_le (pos 0) (value_of f q) (omega (arith, ints)) in
    true≢false (yes ∙ same ∙ sym no)

below_or_above : (a b : ℕ) → a ≢ b → (a < b) ⊎ (b < a)
below_or_above a b d = ⊎_elim (λ l. inl l) (λ f. ⊎_elim (λ l. inr l) (λ g. absurd (d (omega arith))) (cases_lt b a)) (cases_lt a b)

-- ---- from the section to its cells

-- names of all cells in one cell are narrow
abbrev NarrowNames : Form → SheetData → List (List ℕ) → Type 0
NarrowNames f s cell = All (IsNarrowName f s) (flat_map (λ piece. piece) (cells_in (flag_of f s) cell))

rising : (f : Form) (s : SheetData) (cell : List (List ℕ)) (i j : ℕ) → IsNamedCell cell → i < j → j < length cell → length (get_or cell i []) ≡ length (get_or cell j [])
    → flag_of f s (get_or cell i []) ≢ flag_of f s (get_or cell j []) → NarrowNames f s cell → IsNarrowEdge f (point_of s (get_or cell i [])) (point_of s (get_or cell j []))
rising f s cell i j h r l same apart each =
    let e : End = record { low = i; high = j } in
    let is : IsNamedEnd (flag_of f s) cell e = record { order = r; within = l; apart = apart } in
    between f s (get_or cell i []) (get_or cell j []) same
    (All-contains (IsNarrowName f s) (flat_map (λ piece. piece) (cells_in (flag_of f s) cell)) (end_name cell e) each (end-used (flag_of f s) cell e h is))

either : (f : Form) (s : SheetData) (cell : List (List ℕ)) (i j : ℕ) → IsNamedCell cell → i < length cell → j < length cell → length (get_or cell i []) ≡ length (get_or cell j [])
    → flag_of f s (get_or cell i []) ≢ flag_of f s (get_or cell j []) → NarrowNames f s cell → IsNarrowEdge f (point_of s (get_or cell i [])) (point_of s (get_or cell j []))
either f s cell i j h il jl same apart each =
    ⊎_elim
    (λ r. rising f s cell i j h r jl same apart each)
    (λ r. turned f (point_of s (get_or cell j [])) (point_of s (get_or cell i [])) (rising f s cell j i h r il (sym same) (λ e. apart (sym e)) each))
    (below_or_above i j (λ e. apart (ap (λ k. flag_of f s (get_or cell k [])) e)))

pair : (f : Form) (s : SheetData) (cell : List (List ℕ)) (i j : ℕ) → IsNamedCell cell → i < length cell → j < length cell → length (get_or cell i []) ≡ length (get_or cell j [])
    → NarrowNames f s cell → IsNarrowEdge f (point_of s (get_or cell i [])) (point_of s (get_or cell j []))
pair f s cell i j h il jl same each =
    let p = point_of s (get_or cell i []) in
    let q = point_of s (get_or cell j []) in
    record {
      up = λ a b. (either f s cell i j h il jl same (differ f p q a b) each).up a b;
      down = λ a b. (either f s cell i j h il jl same (λ e. differ f q p a b (sym e)) each).down a b;
    }

narrow-names : (f : Form) (s : SheetData) → IsNarrowSection f s → All (NarrowNames f s) s.cells
narrow-names f s h k d l =
    let P : List ℕ → Type 0 = IsNarrowName f s in
    let flat = flat_map (λ (cell : List (List ℕ)). cell) (section_cells f s) in
    let all : All P flat = all-among P flat (names_of (section_cells f s)) h.crossings (in-each_once flat) in
    all-flat P (cells_in (flag_of f s) (get_or s.cells k d)) (cells-all (All P) (cells_in (flag_of f s)) s.cells (all-pieces P (section_cells f s) all) k d l)

pub narrow-cells : (f : Form) (s : SheetData) (size : ℕ) → IsSheet s → AreNames size s.names → IsNarrowSection f s → All (IsNarrowCell f s) s.cells
narrow-cells f s size h names narrow k d l =
    let cell = get_or s.cells k d in
    let sized = sized-cells size s h names k d l in
    record {
      values = λ i e il. of-points (IsNarrowValue f) s (get_or cell i e) h narrow.values (corners s h k d l i e il);
      crossings =
          All-from_get_or (λ m. All (λ n. IsNarrowEdge f (point_of s m) (point_of s n)) cell) cell [] (λ i il.
          All-from_get_or (λ n. IsNarrowEdge f (point_of s (get_or cell i [])) (point_of s n)) cell [] (λ j jl.
          pair f s cell i j (h.each k d l) il jl (sized i [] il ∙ sym (sized j [] jl)) (narrow-names f s narrow k d l)));
    }

-- ---- and back

pub narrow-section : (f : Form) (s : SheetData) (size : ℕ) → IsSheet s → AreNames size s.names → All (IsNarrowCell f s) s.cells → IsNarrowSection f s
narrow-section f s size h names each =
    let P : List ℕ → Type 0 = IsNarrowName f s in
    let flat = flat_map (λ (cell : List (List ℕ)). cell) (section_cells f s) in
    record {
      values = to-points (IsNarrowValue f) s h (λ k d l. (each k d l).values);
      crossings =
          all-among P (names_of (section_cells f s)) flat
          (all-flat P (section_cells f s)
          (all-cells (All P) (cells_in (flag_of f s)) s.cells (λ k d l.
          let cell = get_or s.cells k d in
          let sized = sized-cells size s h names k d l in
          by-ends P (flag_of f s) cell (h.each k d l) (λ e is.
          let low : e.low < length cell = omega (arith, is.order, is.within) in
          named f s (get_or cell e.low []) (get_or cell e.high []) (sized e.low [] low ∙ sym (sized e.high [] is.within))
          ((each k d l).crossings e.low [] low e.high [] is.within)))))
          (of-each_once flat);
    }
