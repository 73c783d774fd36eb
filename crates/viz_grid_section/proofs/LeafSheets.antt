-- A sheet of cells between leaves: its cells by names, and the point of a leaf.
use Rattle.std.proofs.Common.{◌≡◌, ℕ, ◌<◌, Bool, true, false, List, [], ◌∷◌, map, length, get_or, sym, refl, ap, ap₂, ◌∙◌, arith}
use Rattle.std.specs.List.{All, Contains, flat_map, range_with_len}
use Rattle.std.specs.Cmp.Lexicographic.{slice_cmp}
use Rattle.std.specs.Ordering.{nat_cmp}
use Rattle.std.proofs.lemmas.Cmp.{nat_eq_equiv}
use Rattle.std.proofs.lemmas.List.Elements.{All-head, All-tail}
use Rattle.std.proofs.lemmas.List.FromFn.{length-map-range_with_len, get_or-map-range_with_len}
use Rattle.std.proofs.lemmas.Map.Views.{list_any-from_Contains}
use Rattle.viz_fraction.specs.Points.{Point}
use Rattle.viz_sheet.specs.Sheet.{SheetData}
use Rattle.viz_sheet.specs.Ranked.{rank_of, leaf_names, names_at}
use Rattle.viz_sheet.specs.Kept.{kept, kept_rank, is_used, used_marks, sheet_with}
use Rattle.viz_sheet.proofs.KeptLemmas.{kept-at, kept-sorted, rank-below}
use Rattle.viz_sheet.proofs.LeafLemmas.{leaf_names-ascend}
use Rattle.viz_sheet.proofs.RankLemmas.{rank-at}
use Rattle.viz_meaning.specs.Section.{point_of, zero_point}

-- the sheet of cells between so many leaves, each at its point
abbrev pub leaf_sheet : ℕ → (ℕ → Point) → List (List ℕ) → SheetData
leaf_sheet count at cells = sheet_with (leaf_names count) (map at (range_with_len 0 count)) cells

-- a leaf of a cell
pub record IsLeaf (count : ℕ) (cells : List (List ℕ)) (leaf : ℕ) : Type 0 where
  pub below : leaf < count
  pub used : Contains (flat_map (λ cell. cell) cells) leaf

-- the name of a leaf
pub name-leaf : (count leaf : ℕ) → leaf < count → get_or (leaf_names count) leaf [] ≡ leaf ∷ []
name-leaf count leaf below = get_or-map-range_with_len (λ n. n ∷ []) 0 count leaf leaf [] below (omega arith)

-- a cell between leaves by names
pub names-leaves : (count : ℕ) (leaves : List ℕ) → All (λ leaf. leaf < count) leaves → names_at (leaf_names count) leaves ≡ map (λ leaf. leaf ∷ []) leaves
names-leaves count [] below = refl
names-leaves count (leaf ∷ leaves) below =
    ap₂ (λ n ns. n ∷ ns) (name-leaf count leaf (All-head (λ n. n < count) leaf leaves below))
    (names-leaves count leaves (All-tail (λ n. n < count) leaf leaves below))

-- the name of a marked leaf has as its rank how many marked ones come before
rank-kept : (count : ℕ) (marks : List Bool) (leaf : ℕ) → length marks ≡ length (leaf_names count) → leaf < count → get_or marks leaf false ≡ true
    → rank_of (kept marks (leaf_names count)) (leaf ∷ []) ≡ kept_rank marks leaf
rank-kept count marks leaf size below marked =
    let names = leaf_names count in
    let is : get_or (kept marks names) (kept_rank marks leaf) [] ≡ leaf ∷ [] = kept-at marks names leaf [] size marked ∙ name-leaf count leaf below in
    ap (rank_of (kept marks names)) (sym is)
    ∙ rank-at (kept marks names) (kept_rank marks leaf) (kept-sorted (slice_cmp nat_cmp) marks names (leaf_names-ascend count)) (rank-below marks names leaf size marked)

-- and its point is that of the leaf
point-kept : (count : ℕ) (at : ℕ → Point) (marks : List Bool) (leaf : ℕ) → length marks ≡ length (leaf_names count) → leaf < count → get_or marks leaf false ≡ true
    → get_or (kept marks (map at (range_with_len 0 count))) (rank_of (kept marks (leaf_names count)) (leaf ∷ [])) zero_point ≡ at leaf
point-kept count at marks leaf size below marked =
    let points = map at (range_with_len 0 count) in
    let names : length (leaf_names count) ≡ count = length-map-range_with_len (λ n. n ∷ []) 0 count in
    let sized : length points ≡ count = length-map-range_with_len at 0 count in
    ap (λ r. get_or (kept marks points) r zero_point) (rank-kept count marks leaf size below marked)
    ∙ kept-at marks points leaf zero_point (size ∙ names ∙ sym sized) marked
    ∙ get_or-map-range_with_len at 0 count leaf leaf zero_point below (omega arith)

-- the mark of a leaf of a cell
marked-leaf : (count leaf : ℕ) (cells : List (List ℕ)) → leaf < count → Contains (flat_map (λ cell. cell) cells) leaf → get_or (used_marks count cells) leaf false ≡ true
marked-leaf count leaf cells below used =
    get_or-map-range_with_len (is_used cells) 0 count leaf leaf false below (omega arith)
    ∙ list_any-from_Contains nat_eq_equiv leaf (flat_map (λ (cell : List ℕ). cell) cells) used

-- the point of a leaf of a cell
pub point-leaf_sheet : (count : ℕ) (at : ℕ → Point) (cells : List (List ℕ)) (leaf : ℕ) → IsLeaf count cells leaf
    → point_of (leaf_sheet count at cells) (leaf ∷ []) ≡ at leaf
point-leaf_sheet count at cells leaf is =
    let size = length (leaf_names count) in
    let all : size ≡ count = length-map-range_with_len (λ n. n ∷ []) 0 count in
    point-kept count at (used_marks size cells) leaf (length-map-range_with_len (is_used cells) 0 size) is.below
    (marked-leaf size leaf cells (omega (arith, all, is.below)) is.used)
