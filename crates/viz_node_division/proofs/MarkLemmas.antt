-- Each piece has a mark for each cell.
use Rattle.std.proofs.Common.{◌≡◌, ℕ, ℤ, ◌+◌, ◌-◌, ◌<◌, ◌≤◌, ⊎_elim, Bool, true, false, List, [], ◌∷◌, ◌++◌, append-nil, length, length-append, get_or, map, replicate, refl, sym, ap, ap₂, ◌∙◌, arith}
use Rattle.std.specs.List.{flat_map, range_with_len, sum}
use Rattle.std.proofs.lemmas.Bool.{cases_lt}
use Rattle.std.proofs.lemmas.List.{
  get_or-map,
  get_or_append_left,
  get_or-append_right,
  get_or_default,
  length-map,
  length-replicate,
  same_lists,
}
use Rattle.std.proofs.lemmas.List.FromFn.{length-range_with_len}
use Rattle.std.proofs.lemmas.List.Sums.{sum_by-cons}
use Rattle.viz_extent.proofs.SlabLemmas.{begins_within, shares_rise}
use Rattle.viz_extent.specs.Slabs.{share_begin}
use Rattle.viz_fraction.specs.declared.forms.Form.{Form}
use Rattle.viz_meaning.specs.Section.{cells_in, is_inside_at, point_of, section_of, sections_of}
use Rattle.viz_mesh_meaning.specs.Cells.{Cell}
use Rattle.viz_mesh_meaning.specs.Facets.{boundaries, boundary_of, is_same_name, lone_facets}
use Rattle.viz_mesh_meaning.specs.Select.{if_selected, is_selected, selected, selections}
use Rattle.viz_mesh_meaning.proofs.SelectLemmas.{filter-as_flat}
use Rattle.viz_parts.specs.Pieces.{AreAll, Division, SharesOut, in_turn, own_range, own_share}
use Rattle.viz_piece_divisions.specs.Divisions.{boundary_owns, handed_division, handed_each, section_owns, selected_owns}
use Rattle.viz_piece_divisions.proofs.ShareLemmas.{handed-at, length-handed}
use Rattle.viz_piece_filters.specs.Filters.{handed_boundary, handed_section, kept_selected}
use Rattle.viz_piece_filters.specs.HandedOn.{counts, handed_on}
use Rattle.viz_piece_filters.proofs.ChainLemmas.{selections_hand_on}
use Rattle.viz_sheet.specs.Kept.{kept}
use Rattle.viz_sheet.specs.Sheet.{SheetData}
use Rattle.viz_node_division.specs.Shares.{MarksCells, all_own}

-- ---- ranges

pub length-own_range : (count first next : ℕ) → first ≤ next → next ≤ count
    → length (own_range count first next) ≡ count
length-own_range count first next l m =
    let behind : List Bool = replicate (next - first) true ++ replicate (count - next) false in
    omega (
      arith,
      length-append (replicate first false) behind,
      length-append (replicate (next - first) true) (replicate (count - next) false),
      length-replicate {A = Bool} first false,
      length-replicate {A = Bool} (next - first) true,
      length-replicate {A = Bool} (count - next) false,
      l,
      m,
    )

length-own_share : (p n count : ℕ) → p < n → length (own_share p n count) ≡ count
length-own_share p n count less =
    length-own_range count (share_begin n count p) (share_begin n count (p + 1))
    (shares_rise n count p (p + 1) (omega (arith, less)) (omega arith))
    (begins_within n count (p + 1) (omega (arith, less)) (omega (arith, less)))

pub turn_marks : (sheets : List SheetData) (n : ℕ) → MarksCells (in_turn sheets) sheets n
turn_marks sheets n = record {
  each = λ p k s less below.
      ap length (get_or-map (λ t. own_share p n (length t.cells)) sheets k s [] below)
      ∙ length-own_share p n (length (get_or sheets k s).cells) less;
}

-- ---- what is handed on

length-handed_on : (own : List Bool) (made : List ℕ) → length own ≡ length made
    → length (handed_on own made) ≡ sum made
length-handed_on [] [] e = refl
length-handed_on [] (n ∷ ns) e = absurd (omega (arith, e))
length-handed_on (o ∷ os) [] e = absurd (omega (arith, e))
length-handed_on (o ∷ os) (n ∷ ns) e =
    length-append (replicate n o) (handed_on os ns)
    ∙ ap₂ (λ a b. a + b) (length-replicate {A = Bool} n o)
    (length-handed_on os ns (omega (arith, e)))
    ∙ sym (sum_by-cons (λ x. x) n ns)

length-made : (f : Cell → List Cell) (cells : List Cell)
    → length (flat_map f cells) ≡ sum (counts f cells)
length-made f [] = refl
length-made f (c ∷ cs) =
    length-append (f c) (flat_map f cs) ∙ ap (λ k. length (f c) + k) (length-made f cs)
    ∙ sym (sum_by-cons (λ x. x) (length (f c)) (counts f cs))

made_fit : (f : Cell → List Cell) (cells : List Cell) (own : List Bool) → length own ≡ length cells
    → length (handed_on own (counts f cells)) ≡ length (flat_map f cells)
made_fit f cells own e = length-handed_on own (counts f cells) (e
    ∙ sym (length-map cells (λ c. length (f c))))
    ∙ sym (length-made f cells)

-- marks of a sheet's cells become marks of those that are made of them
abbrev Fits : (SheetData → SheetData) → (SheetData → List Bool → List Bool) → Type 0
Fits make hand = (s : SheetData) (own : List Bool) → length own ≡ length s.cells
    → length (hand s own) ≡ length (make s).cells

handed_marks : (make : SheetData → SheetData) (hand : SheetData → List Bool → List Bool)
    → Fits make hand → (sheets : List SheetData) (division : Division) (n : ℕ)
    → SharesOut division sheets n → MarksCells division sheets n
    → MarksCells (handed_division (handed_each hand) sheets division) (map make sheets) n
handed_marks make hand fits sheets division n h m = record {
  each = λ p k s less l.
      let below : k < length sheets = omega (arith, l, length-map sheets make) in
      let sheet = get_or sheets k s in
      ap length (handed-at hand sheets (division p n) k s (h.matched p less) below)
      ∙ fits sheet (get_or (division p n) k []) (m.each p k s less below)
      ∙ sym (ap (λ (t : SheetData). length t.cells) (get_or-map make sheets k s s below));
}

pub selected_marks : (all : Bool) (lo hi : ℤ) (sheets : List SheetData) (division : Division)
    (n : ℕ)
    → SharesOut division sheets n → MarksCells division sheets n
    → MarksCells (handed_division (selected_owns all lo hi) sheets division)
    (selections all lo hi sheets) n
selected_marks all lo hi =
    handed_marks (selected all lo hi) (kept_selected all lo hi)
    (λ s own e.
    ap length (selections_hand_on all lo hi s own)
    ∙ made_fit (if_selected all lo hi s) s.cells own e
    ∙ sym (ap length (filter-as_flat (is_selected all lo hi s) s.cells)))

pub boundary_marks : (sheets : List SheetData) (division : Division) (n : ℕ)
    → SharesOut division sheets n → MarksCells division sheets n
    → MarksCells (handed_division boundary_owns sheets division) (boundaries sheets) n
boundary_marks =
    handed_marks boundary_of handed_boundary
    (λ s own e. made_fit (lone_facets is_same_name s.cells) s.cells own e)

-- ---- one behind the other

pub joined_marks : (d e : Division) (a b : List SheetData) (n : ℕ)
    → ((p : ℕ) → p < n → length (d p n) ≡ length a) → MarksCells d a n → MarksCells e b n
    → MarksCells (λ p m. d p m ++ e p m) (a ++ b) n
joined_marks d e a b n long h j = record {
  each = λ p k s less l. ⊎_elim
      (λ before.
      ap length (get_or_append_left (d p n) (e p n) [] k (omega (arith, before, long p less)))
      ∙ h.each p k s less before
      ∙ sym (ap (λ (t : SheetData). length t.cells) (get_or_append_left a b s k before)))
      (λ from.
      let at = k - length a in
      ap length (get_or-append_right (d p n) (e p n) (length a) k [] (long p less) from)
      ∙ j.each p at s less (omega (arith, l, from, length-append a b))
      ∙ sym
      (ap (λ (t : SheetData). length t.cells) (get_or-append_right a b (length a) k s refl from)))
      (cases_lt k (length a));
}

pub no_marks : (n : ℕ) → MarksCells (λ p m. []) [] n
no_marks n = record { each = λ p k s less l. absurd (omega (arith, l)) }

pub section_marks : (forms : List Form) (sheets : List SheetData) (division : Division) (n : ℕ)
    → SharesOut division sheets n → MarksCells division sheets n
    → MarksCells (handed_division (section_owns forms) sheets division)
    (sections_of forms sheets) n
section_marks [] sheets division n h m = no_marks n
section_marks (f ∷ fs) sheets division n h m =
    joined_marks (handed_division (handed_each (handed_section f)) sheets division)
    (handed_division (section_owns fs) sheets division)
    (map (section_of f) sheets) (sections_of fs sheets) n
    (λ p less. length-handed (handed_section f) sheets (division p n) (h.matched p less)
    ∙ sym (length-map sheets (section_of f)))
    (handed_marks (section_of f) (handed_section f)
    (λ s own e. made_fit
    (cells_in (λ x. is_inside_at f (point_of s x))) s.cells own e) sheets division n h m)
    (section_marks fs sheets division n h m)

-- ---- the only piece

few_kept : (own : List Bool) (xs : List ℕ) → length (kept own xs) ≤ length xs
few_kept [] xs = omega arith
few_kept (o ∷ os) [] = omega arith
few_kept (true ∷ os) (x ∷ xs) = omega (arith, few_kept os xs)
few_kept (false ∷ os) (x ∷ xs) = omega (arith, few_kept os xs)

all_kept : (own : List Bool) (xs : List ℕ) → length own ≡ length xs
    → length (kept own xs) ≡ length xs → own ≡ replicate (length xs) true
all_kept [] [] e l = refl
all_kept [] (x ∷ xs) e l = absurd (omega (arith, e))
all_kept (o ∷ os) [] e l = absurd (omega (arith, e))
all_kept (true ∷ os) (x ∷ xs) e l =
    ap (λ r. true ∷ r) (all_kept os xs (omega (arith, e)) (omega (arith, l)))
all_kept (false ∷ os) (x ∷ xs) e l = absurd (omega (arith, l, few_kept os xs))

only_own : (count : ℕ) (own : List Bool) → AreAll count (own ∷ []) → length own ≡ count
    → own ≡ replicate count true
only_own count own all e =
    let range = range_with_len 0 count in
    let long = length-range_with_len 0 count in
    let same : kept own range ≡ range = sym (append-nil (kept own range)) ∙ all in
    all_kept own range (e ∙ sym long) (ap length same) ∙ ap (λ k. replicate k true) long

no_sheet : SheetData
no_sheet = record { names = []; points = []; cells = [] }

pub only_piece : (division : Division) (sheets : List SheetData) → SharesOut division sheets 1
    → MarksCells division sheets 1 → division 0 1 ≡ map all_own sheets
only_piece division sheets h m =
    let first : 0 < 1 = omega arith in
    let long = h.matched 0 first in
    same_lists (division 0 1) (map all_own sheets) (long ∙ sym (length-map sheets all_own))
    (λ k d l.
    let below : k < length sheets = omega (arith, l, long) in
    sym (get_or_default (division 0 1) k [] d l)
    ∙ only_own (length (get_or sheets k no_sheet).cells) (get_or (division 0 1) k [])
    (h.all k no_sheet below) (m.each 0 k no_sheet first below)
    ∙ sym (get_or-map all_own sheets k no_sheet d below))
