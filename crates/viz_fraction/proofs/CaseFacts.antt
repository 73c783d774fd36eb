-- Rows of the table and a determinant by hand.
use Rattle.std.proofs.Common.{◌≡◌, ℕ, ◌+◌, ◌%◌, ◌==◌, true, List, [], ◌∷◌, length, nat_lt, nat_eq, slice_index, ◌&&◌, refl}
use Rattle.std.specs.Prelude.{count_by}
use Rattle.std.specs.List.{list_all}
use Rattle.std.specs.Set.{distinct_count}
use Rattle.viz_fraction.specs.CaseRows.{End, e01, e02, e03, e12, e13, point, segment, triangle, rows}
use Rattle.viz_fraction.specs.Cases.{inside_of, cells_at, case_at}
use Rattle.viz_fraction.specs.CaseLaws.{complement, side, sides_of}
use Rattle.viz_fraction.specs.CaseFacing.{Weights, weights_with, even_orders, odd_orders, sum_along}

-- ---- the rows

all_rows : length rows ≡ 22
all_rows = refl

corners_of_mask : inside_of 4 13 ≡ 0 ∷ 2 ∷ 3 ∷ []
corners_of_mask = refl

one_corner : cells_at 1 1 ≡ []
unfolding cells_at
one_corner = refl

two_corners : cells_at 2 2 ≡ point e01 ∷ []
unfolding cells_at
two_corners = refl

one_of_three : cells_at 3 2 ≡ segment e12 e01 ∷ []
unfolding cells_at
one_of_three = refl

two_of_three : cells_at 3 5 ≡ segment e01 e12 ∷ []
unfolding cells_at
two_of_three = refl

none_of_four : cells_at 4 0 ≡ []
unfolding cells_at
none_of_four = refl

one_of_four : cells_at 4 1 ≡ triangle e01 e02 e03 ∷ []
unfolding cells_at
one_of_four = refl

three_of_four : cells_at 4 14 ≡ triangle e02 e01 e03 ∷ []
unfolding cells_at
three_of_four = refl

two_of_four : cells_at 4 3 ≡ triangle e02 e03 e13 ∷ triangle e02 e13 e12 ∷ []
unfolding cells_at
two_of_four = refl

all_of_four : cells_at 4 15 ≡ []
unfolding cells_at
all_of_four = refl

held_by_a_case : (case_at 4 1).ends ≡ (0 ∷ 1 ∷ []) ∷ (0 ∷ 2 ∷ []) ∷ (0 ∷ 3 ∷ []) ∷ (0 ∷ 0 ∷ []) ∷ (0 ∷ 0 ∷ []) ∷ (0 ∷ 0 ∷ []) ∷ []
unfolding case_at cells_at
held_by_a_case = refl

size_without_cells : (case_at 4 15).size ≡ 3
unfolding case_at cells_at
size_without_cells = refl

other_corners : complement 4 1 ≡ 14
other_corners = refl

-- ---- the determinant

-- how many numbers of an order are above a later one
abbrev inversions : List ℕ → ℕ
inversions [] = 0
inversions (x ∷ xs) = count_by (λ y. nat_lt y x) xs + inversions xs

twelve_even : length even_orders ≡ 12
twelve_even = refl

twelve_odd : length odd_orders ≡ 12
twelve_odd = refl

even_are_even : list_all (λ columns. (inversions columns % 2 == 0) && (distinct_count nat_eq columns == 4)) even_orders ≡ true
even_are_even = refl

odd_are_odd : list_all (λ columns. (inversions columns % 2 == 1) && (distinct_count nat_eq columns == 4)) odd_orders ≡ true
odd_are_odd = refl

-- the rows 2 1 0 0, 0 3 1 0, 0 0 4 1 and 1 0 0 5: 2 * 3 * 4 * 5 less 1 * 1 * 1 * 1
abbrev matrix : List (ℕ → ℕ)
matrix =
    slice_index (2 ∷ 1 ∷ 0 ∷ 0 ∷ [])
    ∷ slice_index (0 ∷ 3 ∷ 1 ∷ 0 ∷ [])
    ∷ slice_index (0 ∷ 0 ∷ 4 ∷ 1 ∷ [])
    ∷ slice_index (1 ∷ 0 ∷ 0 ∷ 5 ∷ [])
    ∷ []

even_sum : sum_along matrix even_orders ≡ 120
even_sum = refl

odd_sum : sum_along matrix odd_orders ≡ 1
odd_sum = refl

-- the triangle 01 02 03 at a third of each edge, and corner 1: 2 * 1 * 1 * 1
abbrev third : End → Weights
third e = record { at_low = 2; at_high = 1 }

facing_sum : sum_along (weights_with third (triangle e01 e02 e03) 1) even_orders ≡ 2
facing_sum = refl

no_other_sum : sum_along (weights_with third (triangle e01 e02 e03) 1) odd_orders ≡ 0
no_other_sum = refl

-- ---- sides

sides_in_order : sides_of (triangle e02 e03 e13) ≡ side e02 e03 ∷ side e03 e13 ∷ side e13 e02 ∷ []
sides_in_order = refl
