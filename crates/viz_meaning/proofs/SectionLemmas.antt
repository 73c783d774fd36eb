-- A section of a sheet is a sheet again: its cells, its names and their lengths.
use Rattle.std.proofs.Common.{◌≡◌, ℕ, suc, ◌+◌, ◌<◌, ◌≤◌, Bool, List, [], ◌∷◌, length, get_or, sym, subst, arith}
use Rattle.std.specs.List.{All, Contains, flat_map}
use Rattle.std.proofs.lemmas.Bool.Decides.{nat_tests}
use Rattle.std.proofs.lemmas.List.{length-map}
use Rattle.std.proofs.lemmas.List.Elements.{All-nil, All-cons, All-append, All-contains, Contains-get_or}
use Rattle.viz_fraction.specs.declared.forms.Form.{Form}
use Rattle.viz_fraction.specs.CaseRows.{End}
use Rattle.viz_sheet.specs.PairNames.{AreNames}
use Rattle.viz_sheet.specs.Sheet.{SheetData, IsFit, IsNamedCell, IsSheet, most_names}
use Rattle.viz_meaning.specs.Names.{names_of}
use Rattle.viz_meaning.specs.Section.{cells_in, crossing_at, end_name, is_inside_at, point_of, section_cells, section_of}
use Rattle.viz_meaning.proofs.EndLemmas.{IsNamedEnd, by-ends, edge-length, named-pieces, whole-pieces}
use Rattle.viz_meaning.proofs.ListLemmas.{all-flat, all-among, all-pieces, front, back}
use Rattle.viz_meaning.proofs.NameSets.{in-each_once, of-each_once, sorted-each_once}

-- whether a name's point is inside
abbrev pub flag_of : Form → SheetData → List ℕ → Bool
flag_of f s n = is_inside_at f (point_of s n)

-- ---- cell by cell

-- what holds of the cells in each cell holds of all cells, and the other way round
pub all-cells : {X Y : Type 0} (P : Y → Type 0) (g : X → List Y) (xs : List X) → ((k : ℕ) (d : X) → k < length xs → All P (g (get_or xs k d))) → All P (flat_map g xs)
all-cells P g [] h = All-nil P
all-cells P g (x ∷ xs) h =
    All-append P (g x) (flat_map g xs) (h 0 x (omega arith)) (all-cells P g xs (λ k d l. h (suc k) d (omega arith)))

pub cells-all : {X Y : Type 0} (P : Y → Type 0) (g : X → List Y) (xs : List X) → All P (flat_map g xs) → All (λ x. All P (g x)) xs
cells-all P g [] h = All-nil (λ x. All P (g x))
cells-all P g (x ∷ xs) h =
    All-cons (λ y. All P (g y)) x xs (front P (g x) (flat_map g xs) h) (cells-all P g xs (back P (g x) (flat_map g xs) h))

-- the corners of each cell are names of the sheet
pub corners : (s : SheetData) → IsSheet s → All (All (Contains s.names)) s.cells
corners s h =
    let all = flat_map (λ (cell : List (List ℕ)). cell) s.cells in
    all-pieces (Contains s.names) s.cells (λ k d l. (h.used (get_or all k d)).1 (Contains-get_or all k d l))

pub sized-cells : (size : ℕ) (s : SheetData) → IsSheet s → AreNames size s.names → All (All (λ n. length n ≡ size)) s.cells
sized-cells size s h names k d l i e il =
    All-contains (λ n. length n ≡ size) s.names (get_or (get_or s.cells k d) i e) names.sized (corners s h k d l i e il)

-- ---- the section is a sheet

pub section-named : (f : Form) (s : SheetData) (size : ℕ) → IsSheet s → AreNames size s.names → All IsNamedCell (section_cells f s)
section-named f s size h names =
    all-cells IsNamedCell (cells_in (flag_of f s)) s.cells (λ k d l.
    named-pieces size (flag_of f s) (get_or s.cells k d) (sized-cells size s h names k d l) (h.each k d l))

pub section-sheet : (f : Form) (s : SheetData) (size : ℕ) → IsSheet s → AreNames size s.names → IsSheet (section_of f s)
section-sheet f s size h names =
    let all = flat_map (λ (cell : List (List ℕ)). cell) (section_cells f s) in
    record {
      ascending = sorted-each_once all;
      matched = length-map (names_of (section_cells f s)) (crossing_at f s);
      each = section-named f s size h names;
      used = λ n. (of-each_once all n, in-each_once all n);
    }

-- ---- the lengths of its names

end-length : (size : ℕ) (inside : List ℕ → Bool) (cell : List (List ℕ)) (e : End) → All (λ n. length n ≡ size) cell → IsNamedEnd inside cell e → length (end_name cell e) ≡ size + size
end-length size inside cell e sized h =
    omega (arith, edge-length (get_or cell e.low []) (get_or cell e.high []), sized e.low [] (omega (arith, h.order, h.within)), sized e.high [] h.within)

pub section-lengths : (f : Form) (s : SheetData) (size : ℕ) → IsSheet s → AreNames size s.names → All (All (λ n. length n ≡ size + size)) (section_cells f s)
section-lengths f s size h names =
    all-cells (All (λ n. length n ≡ size + size)) (cells_in (flag_of f s)) s.cells (λ k d l.
    let cell = get_or s.cells k d in
    by-ends (λ n. length n ≡ size + size) (flag_of f s) cell (h.each k d l) (λ e is. end-length size (flag_of f s) cell e (sized-cells size s h names k d l) is))

pub section-names : (f : Form) (s : SheetData) (size : ℕ) → IsSheet s → AreNames size s.names → AreNames (size + size) (section_of f s).names
section-names f s size h names =
    let all = flat_map (λ (cell : List (List ℕ)). cell) (section_cells f s) in
    record {
      sized =
          all-among (λ n. length n ≡ size + size) (names_of (section_cells f s)) all
          (all-flat (λ n. length n ≡ size + size) (section_cells f s) (section-lengths f s size h names)) (of-each_once all);
      ascending = sorted-each_once all;
    }

-- ---- it fits

-- a cell with two corners that fits has cells that fit
next-level : (size corners : ℕ) → 2 ≤ corners → corners ≤ most_names size → corners ≤ most_names (size + size) + 1
next-level size corners two fit = grind (arith, nat_tests)

pub section-fits : (f : Form) (s : SheetData) (size : ℕ) → IsSheet s → AreNames size s.names → IsFit s → IsFit (section_of f s)
section-fits f s size h names fit = record {
  each =
      all-cells (λ piece. All (λ n. length piece ≤ most_names (length n)) piece) (cells_in (flag_of f s)) s.cells (λ k d l i e il.
      let cell = get_or s.cells k d in
      let sized = sized-cells size s h names k d l in
      let whole = whole-pieces (flag_of f s) cell (h.each k d l) i e il in
      let room : length cell ≤ most_names size = subst (λ n. length cell ≤ most_names n) (sized 0 [] (omega (arith, whole.two))) (fit.each k d l 0 [] (omega (arith, whole.two))) in
      let next = next-level size (length cell) whole.two room in
      let piece = get_or (cells_in (flag_of f s) cell) i e in
      λ j c jl.
      let long : length (get_or piece j c) ≡ size + size =
      by-ends (λ n. length n ≡ size + size) (flag_of f s) cell (h.each k d l) (λ o is. end-length size (flag_of f s) cell o sized is) i e il j c jl in
      subst (λ n. length piece ≤ most_names n) (sym long) (omega (arith, whole.size, next)));
}
