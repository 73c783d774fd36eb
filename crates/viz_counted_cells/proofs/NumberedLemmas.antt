-- The numbers behind the first cell are those of the others.
use Rattle.std.proofs.Common.{◌≡◌, ℕ, List, [], ◌∷◌, ◌++◌, length, refl}
use Rattle.std.specs.Prelude.{drop}
use Rattle.viz_counted_cells.specs.Numbered.{cell_numbers, behind_first}

pub behind_cell : (cell numbers : List ℕ) → behind_first (cell_numbers cell ++ numbers) ≡ numbers
behind_cell cell numbers = drop_front cell numbers where
  drop_front : (xs ys : List ℕ) → drop (length xs) (xs ++ ys) ≡ ys
  drop_front [] ys = refl
  drop_front (x ∷ xs) ys = drop_front xs ys
