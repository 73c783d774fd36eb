-- The cells in one cell: their ends are cut edges, and by name they are those of the section.
use Rattle.std.proofs.Common.{◌≡◌, ◌≢◌, ℕ, ◌^◌, ◌<◌, ◌≤◌, ⊎_elim, Bool, false, List, [], ◌∷◌, length, get_or, map, slice_index, slice_index_or, refl, sym, ap, ap₂, subst, ◌∙◌, arith}
use Rattle.std.specs.List.{All}
use Rattle.std.proofs.lemmas.List.{get_or-map, length-map}
use Rattle.std.proofs.lemmas.List.Elements.{All-head, All-tail, Contains-get_or}
use Rattle.viz_fraction.specs.declared.forms.Form.{Form}
use Rattle.viz_fraction.specs.Points.{Point}
use Rattle.viz_fraction.specs.CaseRows.{End}
use Rattle.viz_fraction.specs.Cases.{IsCase, cells_at, ends_of, is_inside}
use Rattle.viz_fraction.specs.CaseLaws.{IsCut}
use Rattle.viz_fraction.proofs.CaseEdges.{uses_cut_edges, whole_cells}
use Rattle.viz_sheet.specs.Sheet.{SheetData, AreApart, AreAscending}
use Rattle.viz_sheet.specs.Ranked.{IsCell, names_at}
use Rattle.viz_sheet.proofs.RankLemmas.{rank-at}
use Rattle.viz_meaning.specs.Section.{bits_of, cells_in, end_name, is_inside_at, mask_of, point_of, zero_point}
use Rattle.viz_cells.specs.Steps.Keys.{key_name}
use Rattle.viz_cells.specs.Steps.Pieces.{corner_mask, end_key, keys_in}
use Rattle.viz_cells.specs.Steps.Crossings.{IsCutKey, point_at}
use Rattle.viz_meaning.proofs.BitLemmas.{bits-read, mask_below}
use Rattle.viz_cells.proofs.KeyLemmas.{edge-key, by-halves, same-edge}
use Rattle.viz_meaning.proofs.EndLemmas.{same-end, two_corners}
use Rattle.viz_meaning.proofs.ListLemmas.{all-map, all-pieces, all-weaker_pieces, apart-at, apart-map, map-pieces, pieces-same, pieces-twice}

-- whether each point is inside
abbrev pub flags_of : Form → List Point → List Bool
flags_of f points = map (is_inside_at f) points

-- names that ascend, few, with a point for each
pub record AreGiven (s : SheetData) : Type 0 where
  pub ascending : AreAscending s.names
  pub matched : length s.points ≡ length s.names
  pub few : length s.names ≤ 2 ^ 32

flag-at : (f : Form) (points : List Point) (r : ℕ) → r < length points → slice_index_or (flags_of f points) r false ≡ is_inside_at f (point_at points r)
flag-at f points r l = get_or-map (is_inside_at f) points r zero_point false l

-- the point of the name of a rank
pub point-named : (s : SheetData) (r : ℕ) → AreGiven s → r < length s.names → point_of s (get_or s.names r []) ≡ point_at s.points r
point-named s r g l = ap (λ i. slice_index_or s.points i zero_point) (rank-at s.names r g.ascending l)

-- ---- masks

map-flags : (f : Form) (s : SheetData) (cell : List ℕ) → AreGiven s → All (λ r. r < length s.names) cell
    → map (λ n. is_inside_at f (point_of s n)) (names_at s.names cell) ≡ map (λ r. slice_index_or (flags_of f s.points) r false) cell
map-flags f s [] g h = refl
map-flags f s (r ∷ rs) g h =
    let l = All-head (λ q. q < length s.names) r rs h in
    ap₂ (λ a b. a ∷ b)
    (ap (is_inside_at f) (point-named s r g l) ∙ sym (flag-at f s.points r (omega (arith, g.matched, l))))
    (map-flags f s rs g (All-tail (λ q. q < length s.names) r rs h))

mask-named : (f : Form) (s : SheetData) (cell : List ℕ) → AreGiven s → All (λ r. r < length s.names) cell
    → mask_of (λ n. is_inside_at f (point_of s n)) (names_at s.names cell) ≡ corner_mask (flags_of f s.points) cell
mask-named f s cell g h = ap bits_of (map-flags f s cell g h)

pub case-of : (inside : List Bool) (n : ℕ) (cell : List ℕ) → IsCell n cell → IsCase (length cell) (corner_mask inside cell)
case-of inside n cell h = record {
  least = h.some;
  most = h.most;
  below = mask_below (λ r. slice_index_or inside r false) cell h.most;
}

-- a bit of a cell's mask
mask-bit : (inside : List Bool) (cell : List ℕ) (i : ℕ) → i < length cell → is_inside (corner_mask inside cell) i ≡ slice_index_or inside (slice_index cell i) false
mask-bit inside cell i l =
    bits-read (map (λ r. slice_index_or inside r false) cell) i (subst (λ n. i < n) (sym (length-map cell (λ r. slice_index_or inside r false))) l)
    ∙ get_or-map (λ r. slice_index_or inside r false) cell i 0 false l

-- ---- ends

-- what is known of an end of a cell's section
pub record IsCellEnd (inside : List Bool) (n : ℕ) (cell : List ℕ) (e : End) : Type 0 where
  pub order : e.low < e.high
  pub within : e.high < length cell
  pub apart : slice_index_or inside (slice_index cell e.low) false ≢ slice_index_or inside (slice_index cell e.high) false
  pub low : slice_index cell e.low < n
  pub high : slice_index cell e.high < n
  pub differ : slice_index cell e.low ≢ slice_index cell e.high

cut-end : (inside : List Bool) (n : ℕ) (cell : List ℕ) (e : End) → IsCell n cell → IsCut (length cell) (corner_mask inside cell) e → IsCellEnd inside n cell e
cut-end inside n cell e h cut =
    let low_within : e.low < length cell = omega (arith, cut.order, cut.within) in
    record {
      order = cut.order;
      within = cut.within;
      apart = λ same. cut.apart (mask-bit inside cell e.low low_within ∙ same ∙ sym (mask-bit inside cell e.high cut.within));
      low = h.below e.low 0 low_within;
      high = h.below e.high 0 cut.within;
      differ = λ same. let is : e.low ≡ e.high = apart-at cell e.low e.high 0 h.apart low_within cut.within same in omega (arith, is, cut.order);
    }

-- all ends of a cell's section
pub cell-ends : (inside : List Bool) (n : ℕ) (cell : List ℕ) → IsCell n cell → All (All (IsCellEnd inside n cell)) (cells_at (length cell) (corner_mask inside cell))
cell-ends inside n cell h =
    let m = corner_mask inside cell in
    let ends = ends_of (cells_at (length cell) m) in
    all-pieces (IsCellEnd inside n cell) (cells_at (length cell) m)
    (λ k d l. cut-end inside n cell (get_or ends k d) h ((uses_cut_edges (length cell) m (case-of inside n cell h) (get_or ends k d)).0 (Contains-get_or ends k d l)))

-- ---- names

-- the name of an end is that of its key
end-key : (s : SheetData) (inside : List Bool) (cell : List ℕ) (e : End) → AreGiven s → IsCellEnd inside (length s.names) cell e
    → end_name (names_at s.names cell) e ≡ key_name s.names (end_key cell e)
end-key s inside cell e g h =
    let at = λ (r : ℕ). get_or s.names r [] in
    ap₂ Rattle.viz_meaning.specs.Names.edge_name
    (get_or-map at cell e.low 0 [] (omega (arith, h.order, h.within)))
    (get_or-map at cell e.high 0 [] h.within)
    ∙ edge-key s.names (slice_index cell e.low) (slice_index cell e.high) g.ascending g.few h.differ h.low h.high

pub cell-named : (f : Form) (s : SheetData) (cell : List ℕ) → AreGiven s → IsCell (length s.names) cell
    → cells_in (λ n. is_inside_at f (point_of s n)) (names_at s.names cell) ≡ map (map (key_name s.names)) (keys_in (flags_of f s.points) cell)
unfolding keys_in
cell-named f s cell g h =
    let flags = flags_of f s.points in
    let corners = names_at s.names cell in
    let ends = cells_at (length cell) (corner_mask flags cell) in
    ap₂ (λ n m. map (map (end_name corners)) (cells_at n m)) (length-map cell (λ r. get_or s.names r [])) (mask-named f s cell g h.below)
    ∙ pieces-same (end_name corners) (λ e. key_name s.names (end_key cell e)) ends
    (all-weaker_pieces (IsCellEnd flags (length s.names) cell) (λ e. end_name corners e ≡ key_name s.names (end_key cell e)) ends
    (λ e k. end-key s flags cell e g k) (cell-ends flags (length s.names) cell h))
    ∙ sym (pieces-twice (key_name s.names) (end_key cell) ends)

-- ---- keys

cut-key : (f : Form) (s : SheetData) (cell : List ℕ) (e : End) → AreGiven s → IsCellEnd (flags_of f s.points) (length s.names) cell e → IsCutKey f s.points (end_key cell e)
cut-key f s cell e g h =
    let a = slice_index cell e.low in
    let b = slice_index cell e.high in
    let n = length s.names in
    let differ : is_inside_at f (point_at s.points a) ≢ is_inside_at f (point_at s.points b) =
    λ same. h.apart (flag-at f s.points a (omega (arith, g.matched, h.low)) ∙ same ∙ sym (flag-at f s.points b (omega (arith, g.matched, h.high)))) in
    let P : ℕ → ℕ → Type 0 = λ i j. (i < j) × (j < length s.points) × (is_inside_at f (point_at s.points i) ≢ is_inside_at f (point_at s.points j)) in
    let both = by-halves P a b h.differ (omega (arith, g.few, h.low)) (omega (arith, g.few, h.high))
    (λ r. (r, omega (arith, g.matched, h.high), differ))
    (λ r. (r, omega (arith, g.matched, h.low), λ same. differ (sym same))) in
    record { rises = both.0; below = both.1; apart = both.2 }

pub cut-keys : (f : Form) (s : SheetData) (cell : List ℕ) → AreGiven s → IsCell (length s.names) cell → All (All (IsCutKey f s.points)) (keys_in (flags_of f s.points) cell)
unfolding keys_in
cut-keys f s cell g h =
    let flags = flags_of f s.points in
    let ends = cells_at (length cell) (corner_mask flags cell) in
    map-pieces (IsCutKey f s.points) (end_key cell) ends
    (all-weaker_pieces (IsCellEnd flags (length s.names) cell) (λ e. IsCutKey f s.points (end_key cell e)) ends
    (λ e k. cut-key f s cell e g k) (cell-ends flags (length s.names) cell h))

-- ---- whole cells

-- 1 to 4 different keys
pub record IsWholePiece (piece : List ℕ) : Type 0 where
  pub some : 1 ≤ length piece
  pub most : length piece ≤ 4
  pub apart : AreApart piece

-- ends of one key are one end
key-apart : (inside : List Bool) (n : ℕ) (cell : List ℕ) (e f : End) → n ≤ 2 ^ 32 → IsCell n cell → IsCellEnd inside n cell e → IsCellEnd inside n cell f → e ≢ f → end_key cell e ≢ end_key cell f
key-apart inside n cell e f few h he hf differ same =
    let at = λ (i : ℕ) (j : ℕ) (il : i < length cell) (jl : j < length cell) (q : slice_index cell i ≡ slice_index cell j). apart-at cell i j 0 h.apart il jl q in
    let el : e.low < length cell = omega (arith, he.order, he.within) in
    let fl : f.low < length cell = omega (arith, hf.order, hf.within) in
    ⊎_elim
    (λ p. differ (same-end e f (at e.low f.low el fl p.0) (at e.high f.high he.within hf.within p.1)))
    (λ p.
    let x : e.low ≡ f.high = at e.low f.high el hf.within p.0 in
    let y : e.high ≡ f.low = at e.high f.low he.within fl p.1 in
    omega (arith, x, y, he.order, hf.order))
    (same-edge (slice_index cell e.low) (slice_index cell e.high) (slice_index cell f.low) (slice_index cell f.high) he.differ hf.differ
    (omega (arith, few, he.low)) (omega (arith, few, he.high)) (omega (arith, few, hf.low)) (omega (arith, few, hf.high)) same)

pub whole-pieces : (inside : List Bool) (n : ℕ) (cell : List ℕ) → n ≤ 2 ^ 32 → IsCell n cell → All IsWholePiece (keys_in inside cell)
unfolding keys_in
whole-pieces inside n cell few h =
    let m = corner_mask inside cell in
    let ends = cells_at (length cell) m in
    let known = case-of inside n cell h in
    let whole = whole_cells (length cell) m known in
    all-map IsWholePiece (map (end_key cell)) ends (λ k d l.
    let piece = get_or ends k d in
    let size = (whole k d l).size in
    let two = two_corners (length cell) m k known l in
    let count = length-map piece (end_key cell) in
    let each = cell-ends inside n cell h k d l in
    record {
      some = omega (arith, count, size, two);
      most = omega (arith, count, size, h.most);
      apart = apart-map (end_key cell) piece (λ i j e r b. key-apart inside n cell (get_or piece i e) (get_or piece j e) few h (each i e (omega (arith, r, b))) (each j e b) ((whole k d l).different i j e r b));
    })
