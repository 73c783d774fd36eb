-- Two triangles of a mask share one side, and run through it in opposite directions.
use Rattle.std.proofs.Common.{◌≡◌, ℕ, ◌<◌, ◌==◌, Bool, true, not, ◌&&◌, ◌||◌, ◌⊎◌, inl, inr, List, [], ◌∷◌, ◌++◌, length, nat_eq, refl, sym, ◌∙◌, ap}
use Rattle.std.specs.Prelude.{Contains}
use Rattle.std.specs.List.{list_all, list_any, Any}
use Rattle.std.specs.Set.{distinct_count}
use Rattle.std.proofs.lemmas.Bool.{agree_below_at, and_parts, or_left, or_right, eqb-true}
use Rattle.std.proofs.lemmas.Bool.Decides.{Decides-eqb}
use Rattle.std.proofs.lemmas.List.Folds.{Any-from_list_any}
use Rattle.std.proofs.lemmas.List.Sums.{AllPass-from_list_all}
use Rattle.std.proofs.lemmas.List.Elements.{All-contains}
use Rattle.std.proofs.lemmas.Map.Views.{Contains-from_any, list_any-from_Contains}
use Rattle.viz_fraction.specs.CaseRows.{End}
use Rattle.viz_fraction.specs.Cases.{cells_at, numbers_of, inside_of}
use Rattle.viz_fraction.specs.CaseLaws.{Side, turned, sides_of, IsDiagonal, SharesDiagonals, HasTwoWhereTwoInside}
use Rattle.viz_fraction.proofs.CaseEquals.{equivalence_from_Decides, different_from_count, same_side, same_side-decides}
use Rattle.viz_fraction.proofs.CaseTable.{yes, passes_then}

-- the corners of a side's ends
abbrev corners_of_side : Side → List ℕ
corners_of_side d = numbers_of d.tail ++ numbers_of d.head

-- whether a triangle has a side, in this direction
abbrev has_side : List End → Side → Bool
has_side cell s = list_any (same_side s) (sides_of cell)

-- whether it has it, in either direction
abbrev has_either : List End → Side → Bool
has_either cell s = has_side cell s || has_side cell (turned s)

-- whether a side is another one if a triangle has it
abbrev is_only : List End → Side → Side → Bool
is_only second d s = not (has_either second s) || same_side s d

-- whether no corner of a side's ends counts twice
abbrev has_four_corners : Side → Bool
has_four_corners d = distinct_count nat_eq (corners_of_side d) == length (corners_of_side d)

-- whether the side of a first triangle is the diagonal with a second one
abbrev is_diagonal : List End → List End → Side → Bool
is_diagonal first second d =
    has_side second (turned d) && (list_all (is_only second d) (sides_of first) && has_four_corners d)

-- whether two triangles, where there are two, have a diagonal
abbrev has_diagonal : List (List End) → Bool
has_diagonal [] = true
has_diagonal (first ∷ []) = true
has_diagonal (first ∷ second ∷ []) = list_any (is_diagonal first second) (sides_of first)
has_diagonal (first ∷ second ∷ third ∷ rest) = true

-- what it says that a triangle has a side
has_side-tells : (cell : List End) (s : Side) → has_side cell s ≡ true → Contains (sides_of cell) s
has_side-tells cell s has =
    Contains-from_any {eq = same_side} (λ x y. (same_side-decides x y).0) s (sides_of cell) has

-- and the converse
has_side-from : (cell : List End) (s : Side) → Contains (sides_of cell) s → has_side cell s ≡ true
has_side-from cell s has =
    list_any-from_Contains (equivalence_from_Decides same_side same_side-decides) s (sides_of cell) has

-- a triangle has a side in either direction
has_either-from : (cell : List End) (s : Side)
    → Contains (sides_of cell) s ⊎ Contains (sides_of cell) (turned s) → has_either cell s ≡ true
has_either-from cell s (inl along) = or_left (has_side cell s) (has_side cell (turned s)) (has_side-from cell s along)
has_either-from cell s (inr against) = or_right (has_side cell s) (has_side cell (turned s)) (has_side-from cell (turned s) against)

-- what it says that a side of the first triangle is the diagonal
is_diagonal-tells : (first second : List End) (d : Side) → Contains (sides_of first) d
    → is_diagonal first second d ≡ true → IsDiagonal first second d
is_diagonal-tells first second d forth passes =
    let parts = and_parts (has_side second (turned d)) (list_all (is_only second d) (sides_of first) && has_four_corners d) passes in
    let rest = and_parts (list_all (is_only second d) (sides_of first)) (has_four_corners d) parts.1 in
    record {
      forth = forth;
      back = has_side-tells second (turned d) parts.0;
      only = λ s is_first is_second. (same_side-decides s d).0
          (passes_then (has_either second s) (same_side s d)
          (All-contains (λ t. is_only second d t ≡ true) (sides_of first) s
          (AllPass-from_list_all (is_only second d) (sides_of first) rest.0) is_first)
          (has_either-from second s is_second));
      apart = different_from_count nat_eq Decides-eqb (corners_of_side d)
          (eqb-true (distinct_count nat_eq (corners_of_side d)) (length (corners_of_side d)) rest.1);
    }

-- the diagonal that a test has found
diagonal-from_any : (first second : List End) → Any (λ d. is_diagonal first second d ≡ true) (sides_of first)
    → (d : Side) × IsDiagonal first second d
diagonal-from_any first second (k, d, below, is, passes) =
    (d, is_diagonal-tells first second d (k, below, is) passes)

-- whether a mask has two cells
abbrev has_two_cells : ℕ → Bool
has_two_cells mask = length (cells_at 4 mask) == 2

-- whether it has two inside corners
abbrev has_two_inside : ℕ → Bool
has_two_inside mask = length (inside_of 4 mask) == 2

two_alike : (mask : ℕ) → mask < 16 → has_two_cells mask ≡ has_two_inside mask
unfolding cells_at
two_alike mask below = agree_below_at has_two_cells has_two_inside 16 mask refl below

pub two_where_two_inside : HasTwoWhereTwoInside
two_where_two_inside mask known =
    let cells = Decides-eqb (length (cells_at 4 mask)) 2 in
    let inside = Decides-eqb (length (inside_of 4 mask)) 2 in
    let alike = two_alike mask known.below in
    (λ two. inside.0 (sym alike ∙ cells.1 two), λ two. cells.0 (alike ∙ inside.1 two))

has_diagonal-any : (mask : ℕ) → mask < 16 → has_diagonal (cells_at 4 mask) ≡ true
unfolding cells_at
has_diagonal-any mask below = agree_below_at (λ m. has_diagonal (cells_at 4 m)) yes 16 mask refl below

pub shares_diagonals : SharesDiagonals
shares_diagonals mask known first second two =
    diagonal-from_any first second
    (Any-from_list_any (is_diagonal first second) (sides_of first)
    (sym (ap has_diagonal two) ∙ has_diagonal-any mask known.below))
