-- Sections of pieces and wide numbers.
use Rattle.std.proofs.Common.{◌≡◌, ℕ, ◌<◌, ◌==◌, if◌then◌else◌, ⊎_elim, Bool, true, false, List, [], ◌∷◌, length, get_or, map, sym, ap, subst, ◌∙◌, arith}
use Rattle.std.specs.List.{Contains, range_with_len}
use Rattle.std.proofs.lemmas.List.{get_or-map, length-map, get_or_default}
use Rattle.std.proofs.lemmas.List.Elements.{All-contains, Contains-get_or}
use Rattle.std.proofs.lemmas.List.FromFn.{length-range_with_len, get_or-range_with_len}
use Rattle.viz_fraction.specs.declared.forms.Form.{Form}
use Rattle.viz_fraction.specs.Forms.{IsNarrowValue}
use Rattle.viz_fraction.specs.Points.{Point}
use Rattle.viz_meaning.specs.Narrow.{IsNarrowCell, IsNarrowEdge, IsNarrowSection}
use Rattle.viz_meaning.specs.Section.{point_of, zero_point}
use Rattle.viz_meaning.proofs.NarrowLemmas.{narrow-cells, narrow-section}
use Rattle.viz_mesh_meaning.specs.Cells.{Cell}
use Rattle.viz_parts.specs.Parts.{PartSheetData}
use Rattle.viz_parts.specs.Pieces.{IsSheetPart}
use Rattle.viz_parts.specs.Stitching.{own_items}
use Rattle.viz_piece_filters.specs.Names.{Name}
use Rattle.viz_piece_filters.proofs.MadeLemmas.{cell_name, in_whole, same_point}
use Rattle.viz_piece_filters.proofs.PartLemmas.{from_flat_map, from_map}
use Rattle.viz_piece_stitch.proofs.WholeLemmas.{all_items, no_part, own_is}
use Rattle.viz_sheet.specs.Kept.{kept}
use Rattle.viz_sheet.specs.PairNames.{AreNames}
use Rattle.viz_sheet.specs.Sheet.{SheetData, IsSheet}
use Rattle.viz_sheet.proofs.MemberLemmas.{here, there, member_cases}
use Rattle.viz_piece_divisions.specs.Narrow.{MeshIsNarrow, PiecesAreNarrow}

-- ---- a cell of two sheets with the same points

narrow-same : (f : Form) (s t : SheetData) (c : Cell) → ((n : Name) → Contains c n → point_of s n ≡ point_of t n) → IsNarrowCell f s c → IsNarrowCell f t c
narrow-same f s t c same h =
    let at : (k : ℕ) (d : Name) → k < length c → point_of s (get_or c k d) ≡ point_of t (get_or c k d) = λ k d l. same (get_or c k d) (Contains-get_or c k d l) in
    record {
      values = λ k d l. subst (IsNarrowValue f) (at k d l) (h.values k d l);
      crossings = λ k d l i e m.
          subst (λ (p : Point). IsNarrowEdge f p (point_of t (get_or c i e))) (at k d l)
          (subst (IsNarrowEdge f (point_of s (get_or c k d))) (at i e m) (h.crossings k d l i e m));
    }

-- names of a part are of the level of the whole's
pub part-names : (size : ℕ) (whole : SheetData) (own : List Bool) (ghosts : ℕ) (part : PartSheetData) → IsSheetPart whole own ghosts part → AreNames size whole.names → AreNames size part.sheet.names
part-names size whole own ghosts part is names = record {
  sized = λ k d l.
      let q = is.part_is.points k zero_point l in
      let at : get_or part.sheet.names k d ≡ get_or whole.names q.0 [] = get_or_default part.sheet.names k d [] l ∙ q.2 in
      ap length at ∙ names.sized q.0 [] q.1;
  ascending = is.sheet_is.ascending;
}

module _ (f : Form) (whole : SheetData) (own : List Bool) (ghosts : ℕ) (part : PartSheetData) (is : IsSheetPart whole own ghosts part) where
  points-same : (c : Cell) → Contains part.sheet.cells c → (n : Name) → Contains c n → point_of part.sheet n ≡ point_of whole n
  points-same c i n j = same_point whole part.sheet is.whole_is is.sheet_is is.part_is.points n (cell_name part.sheet is.sheet_is c n i j)

  pub to-part : (c : Cell) → Contains part.sheet.cells c → IsNarrowCell f whole c → IsNarrowCell f part.sheet c
  to-part c i h = narrow-same f whole part.sheet c (λ n j. sym (points-same c i n j)) h

  pub to-whole : (c : Cell) → Contains part.sheet.cells c → IsNarrowCell f part.sheet c → IsNarrowCell f whole c
  to-whole c i h = narrow-same f part.sheet whole c (points-same c i) h

  pub narrow-part : (size : ℕ) → AreNames size whole.names → IsNarrowSection f whole → IsNarrowSection f part.sheet
  narrow-part size names h =
      let cells = narrow-cells f whole size is.whole_is names h in
      narrow-section f part.sheet size is.sheet_is (part-names size whole own ghosts part is names) (λ k d l.
      let c = get_or part.sheet.cells k d in
      let i = Contains-get_or part.sheet.cells k d l in
      to-part c i (All-contains (IsNarrowCell f whole) whole.cells c cells (in_whole whole own ghosts part is.part_is c i)))

  pub narrow-cell : (size : ℕ) → AreNames size whole.names → IsNarrowSection f part.sheet → (c : Cell) → Contains part.sheet.cells c → IsNarrowCell f whole c
  narrow-cell size names h c i =
      to-whole c i (All-contains (IsNarrowCell f part.sheet) part.sheet.cells c (narrow-cells f part.sheet size is.sheet_is (part-names size whole own ghosts part is names) h) i)

no_sheet : SheetData
no_sheet = record { names = []; points = []; cells = [] }

pub pieces_are_narrow : PiecesAreNarrow
pieces_are_narrow forms sheets owns ghosts parts levels is h = record {
  each = λ j g l k d m.
      let f = get_or forms j g in
      let b : k < length sheets = omega (arith, m, length-map parts (λ (p : PartSheetData). p.sheet), is.matched) in
      let level = levels k no_sheet b in
      subst (IsNarrowSection f) (sym (get_or-map (λ (p : PartSheetData). p.sheet) parts k no_part d (omega (arith, b, is.matched))))
      (narrow-part f (get_or sheets k no_sheet) (get_or owns k []) ghosts (get_or parts k no_part) (is.each k no_sheet no_part b) level.size level.names
      (h.each j g l k no_sheet b));
}

-- ---- all pieces

own_among : (cells : List Cell) (levels : List ℕ) (c : Cell) → Contains (own_items cells levels) c → Contains cells c
own_among [] levels c i = i
own_among (x ∷ xs) [] c i = absurd (omega (arith, i.1))
own_among (x ∷ xs) (l ∷ ls) c i = by_test (l == 0) (own_among xs ls c) i
  where
    by_test : (b : Bool) → (Contains (own_items xs ls) c → Contains xs c) → Contains (if b then x ∷ own_items xs ls else own_items xs ls) c → Contains (x ∷ xs) c
    by_test true h j = ⊎_elim (λ e. subst (Contains (x ∷ xs)) e (here x xs)) (λ d. there x xs c (h d)) (member_cases x (own_items xs ls) c j)
    by_test false h j = there x xs c (h j)

-- an own cell of a part is one of its cells
own_there : (whole : SheetData) (own : List Bool) (ghosts : ℕ) (part : PartSheetData) → IsSheetPart whole own ghosts part → (c : Cell) → Contains (kept own whole.cells) c → Contains part.sheet.cells c
own_there whole own ghosts part is c i =
    own_among part.sheet.cells part.levels c (subst (λ (cs : List Cell). Contains cs c) (sym (own_is whole own ghosts part is.part_is)) i)

in_range : (n k : ℕ) → Contains (range_with_len 0 n) k → k < n
in_range n k c =
    let l : c.0 < n = omega (arith, c.1, length-range_with_len 0 n) in
    omega (arith, c.2, get_or-range_with_len 0 n c.0 k l)

pub mesh_is_narrow : MeshIsNarrow
mesh_is_narrow forms sheets division n pieces levels all = record {
  each = λ j g l k d m.
      let f = get_or forms j g in
      let whole = get_or sheets k d in
      let own = λ (p : ℕ). get_or (division p n) k [] in
      let level = levels k d m in
      narrow-section f whole level.size (whole-is k d m) level.names (λ i e b.
      let c = get_or whole.cells i e in
      let owns = map own (range_with_len 0 n) in
      let some = from_flat_map (λ (o : List Bool). kept o whole.cells) owns c
      (subst (λ (cs : List Cell). Contains cs c) (sym (all_items [] whole.cells owns (all.shared.all k d m))) (Contains-get_or whole.cells i e b)) in
      let from = from_map own (range_with_len 0 n) some.0 some.1 in
      let p = from.0 in
      let below = in_range n p from.1 in
      let part = get_or (pieces p) k no_part in
      let is : IsSheetPart whole (own p) (all.ghosts p) part = (all.each p below).each k d no_part m in
      let wide : IsNarrowSection f part.sheet =
      subst (IsNarrowSection f) (get_or-map (λ (q : PartSheetData). q.sheet) (pieces p) k no_part no_sheet (omega (arith, m, (all.each p below).matched)))
      ((all.narrow p below).each j g l k no_sheet (omega (arith, m, (all.each p below).matched, length-map (pieces p) (λ (q : PartSheetData). q.sheet)))) in
      narrow-cell f whole (own p) (all.ghosts p) part is level.size level.names wide c
      (own_there whole (own p) (all.ghosts p) part is c (subst (λ o. Contains (kept o whole.cells) c) (sym from.2) some.2)));
}
  where
    whole-is : (k : ℕ) (d : SheetData) → k < length sheets → IsSheet (get_or sheets k d)
    whole-is k d l = ((all.each 0 all.some).each k d no_part l).whole_is
