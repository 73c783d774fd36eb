-- Cells between leaves are a sheet that fits.
use Rattle.std.proofs.Common.{◌≡◌, ℕ, ◌<◌, ◌≤◌, ◌^◌, ⊎_elim, Bool, false, true≢false, List, [], ◌∷◌, length, get_or, map, sym, subst, refl, ◌∙◌, arith}
use Rattle.std.specs.List.{All, flat_map, range_with_len}
use Rattle.std.specs.Cmp.Lexicographic.{slice_cmp}
use Rattle.std.specs.Ordering.{nat_cmp}
use Rattle.std.proofs.lemmas.Bool.{cases_lt, cond_both, eqb-true}
use Rattle.std.proofs.lemmas.Cmp.{nat_eq_equiv}
use Rattle.std.proofs.lemmas.List.{get_or_past, length-map}
use Rattle.std.proofs.lemmas.List.Elements.{All-nil, All-cons, All-contains, All-head, All-map, All-tail}
use Rattle.std.proofs.lemmas.List.FromFn.{length-map-range_with_len, get_or-map-range_with_len}
use Rattle.std.proofs.lemmas.Map.Views.{Contains-from_any, list_any-from_Contains}
use Rattle.viz_fraction.specs.Points.{Point}
use Rattle.viz_sheet.specs.Kept.{AreMarks, is_used, kept, renumbered, sheet_with, used_marks}
use Rattle.viz_sheet.specs.PairNames.{AreNames}
use Rattle.viz_sheet.specs.Ranked.{AreCells, IsCell, leaf_names, names_at}
use Rattle.viz_sheet.specs.Sheet.{AreAscending, IsFit, IsSheet, most_names}
use Rattle.viz_sheet.proofs.CompactedLemmas.{compacted-cells, compacted-same, compacted-used}
use Rattle.viz_sheet.proofs.KeptLemmas.{kept-lengths, kept-sorted}
use Rattle.viz_sheet.proofs.LeafLemmas.{leaf_names-ascend}
use Rattle.viz_sheet.proofs.SheetLemmas.{ranked_is-sheet}
use Rattle.viz_meaning.proofs.ListLemmas.{all-flat}

-- marks of the ranks that cells have mark just these
marks-used : (count : ℕ) (cells : List (List ℕ)) → All (IsCell count) cells → AreMarks count cells (used_marks count cells)
marks-used count cells h =
    let ranks = flat_map (λ (cell : List ℕ). cell) cells in
    let size = length-map-range_with_len (is_used cells) 0 count in
    let at = λ (r : ℕ) (l : r < count). get_or-map-range_with_len (is_used cells) 0 count r r false l (omega arith) in
    record {
      size = size;
      each = λ r. (
        λ marked. ⊎_elim
            (λ l. Contains-from_any eqb-true r ranks (sym (at r l) ∙ marked))
            (λ past. absurd (true≢false (sym marked ∙ get_or_past (used_marks count cells) r false (omega (arith, size, past)))))
            (cases_lt r count),
        λ c.
            let below : r < count = All-contains (λ q. q < count) ranks r (all-flat (λ q. q < count) cells (λ k d l. (h k d l).below)) c in
            at r below ∙ list_any-from_Contains nat_eq_equiv r ranks c,
      );
    }

-- cells with their own names alone are a sheet
sheet_with-sheet : (names : List (List ℕ)) (points : List Point) (cells : List (List ℕ)) → AreAscending names → length points ≡ length names → All (IsCell (length names)) cells → IsSheet (sheet_with names points cells)
sheet_with-sheet names points cells ascending matched each =
    let marks = used_marks (length names) cells in
    let used = marks-used (length names) cells each in
    subst (λ by. IsSheet (record { names = kept marks names; points = kept marks points; cells = by })) (compacted-same names cells marks used)
    (ranked_is-sheet (kept marks names) (kept marks points) (renumbered marks cells)
    (kept-sorted (slice_cmp nat_cmp) marks names ascending) (kept-lengths marks points names matched)
    (compacted-cells names cells marks each used) (compacted-used names cells marks used))

-- ---- leaves

count-leaves : (count : ℕ) → length (leaf_names count) ≡ count
count-leaves count = length-map-range_with_len (λ leaf. leaf ∷ []) 0 count

one-leaf : (count : ℕ) → All (λ n. length n ≡ 1) (leaf_names count)
one-leaf count = All-map (λ n. length n ≡ 1) (λ leaf. leaf ∷ []) (range_with_len 0 count) (λ k d l. refl)

pub leaf-cells : (count : ℕ) (points : List Point) (cells : List (List ℕ)) → count ≤ 2 ^ 32 → length points ≡ count → All (IsCell count) cells → AreCells (leaf_names count) points cells
leaf-cells count points cells few matched each =
    let names = count-leaves count in
    record {
      ascending = leaf_names-ascend count;
      matched = matched ∙ sym names;
      few = omega (arith, names, few);
      each = subst (λ n. All (IsCell n) cells) (sym names) each;
    }

pub leaves-sheet : (count : ℕ) (points : List Point) (cells : List (List ℕ)) → length points ≡ count → All (IsCell count) cells → IsSheet (sheet_with (leaf_names count) points cells)
leaves-sheet count points cells matched each =
    let names = count-leaves count in
    sheet_with-sheet (leaf_names count) points cells (leaf_names-ascend count) (matched ∙ sym names) (subst (λ n. All (IsCell n) cells) (sym names) each)

-- ---- names of one leaf

all-kept : {X : Type 0} (P : X → Type 0) (marks : List Bool) (xs : List X) → All P xs → All P (kept marks xs)
all-kept P [] xs h = All-nil P
all-kept P (m ∷ ms) [] h = All-nil P
all-kept P (m ∷ ms) (x ∷ xs) h =
    let rest = all-kept P ms xs (All-tail P x xs h) in
    cond_both m (x ∷ kept ms xs) (kept ms xs) (All P) (λ _. All-cons P x (kept ms xs) (All-head P x xs h) rest) (λ _. rest)

pub leaf-names : (count : ℕ) (points : List Point) (cells : List (List ℕ)) → AreNames 1 (sheet_with (leaf_names count) points cells).names
leaf-names count points cells =
    let marks = used_marks (length (leaf_names count)) cells in
    record {
      sized = all-kept (λ n. length n ≡ 1) marks (leaf_names count) (one-leaf count);
      ascending = kept-sorted (slice_cmp nat_cmp) marks (leaf_names count) (leaf_names-ascend count);
    }

-- a cell of names of one leaf fits
cell-fits : (names : List (List ℕ)) (cell : List ℕ) → All (λ n. length n ≡ 1) names → IsCell (length names) cell → All (λ n. length (names_at names cell) ≤ most_names (length n)) (names_at names cell)
cell-fits names cell one h =
    let at = λ (r : ℕ). get_or names r [] in
    let four : length (map at cell) ≤ 4 = omega (arith, length-map cell at, h.most) in
    All-map (λ n. length (map at cell) ≤ most_names (length n)) at cell
    (λ i d l. subst (λ m. length (map at cell) ≤ most_names m) (sym (one (get_or cell i d) [] (h.below i d l))) four)

pub leaf-fits : (count : ℕ) (points : List Point) (cells : List (List ℕ)) → All (IsCell count) cells → IsFit (sheet_with (leaf_names count) points cells)
leaf-fits count points cells h =
    let names = leaf_names count in
    record {
      each =
          All-map (λ cell. All (λ n. length cell ≤ most_names (length n)) cell) (names_at names) cells
          (λ k d l. cell-fits names (get_or cells k d) (one-leaf count) (subst (λ n. IsCell n (get_or cells k d)) (sym (count-leaves count)) (h k d l)));
    }
