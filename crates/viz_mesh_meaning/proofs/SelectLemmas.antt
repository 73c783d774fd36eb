-- Selected cells.
use Rattle.std.proofs.Common.{◌≡◌, Bool, true, false, cond, ◌&&◌, List, [], ◌∷◌, ◌++◌, refl, sym, ap, true≢false, arith}
use Rattle.std.proofs.lemmas.Int.{ints}
use Rattle.std.specs.Prelude.{ℤ, ◌*ℤ◌, ◌↔◌, int_le}
use borrow.Author.Differences.{le-true, true_is_le}
use Rattle.viz_fraction.specs.Points.{Point}
use Rattle.viz_fraction.specs.Places.{IsWithin}
use Rattle.std.specs.List.{All, Contains, filter, flat_map}
use Rattle.std.proofs.lemmas.List.Elements.{All-filter}
use Rattle.viz_sheet.specs.Sheet.{SheetData, IsNamedCell, IsSheet}
use Rattle.viz_mesh_meaning.specs.Cells.{Cell, with_cells}
use Rattle.viz_mesh_meaning.specs.Select.{has_scalar_within, if_selected, is_selected, selected}
use Rattle.viz_mesh_meaning.specs.Laws.{IsMadeOf}
use Rattle.viz_mesh_meaning.proofs.CellLemmas.{cells-made, of-names}

-- a filter keeps each item or none of it
pub filter-as_flat : {X : Type 0} (p : X → Bool) (xs : List X) → filter p xs ≡ flat_map (λ x. cond (p x) (x ∷ []) []) xs
filter-as_flat p [] = refl
filter-as_flat {X = X} p (x ∷ xs) = one (p x) (filter p xs) (flat_map (λ y. cond (p y) (y ∷ []) []) xs) (filter-as_flat p xs)
  where
    one : (b : Bool) (ys zs : List X) → ys ≡ zs → cond b (x ∷ ys) ys ≡ cond b (x ∷ []) [] ++ zs
    one true ys zs e = ap (λ t. x ∷ t) e
    one false ys zs e = e

filtered-named : (p : Cell → Bool) (s : SheetData) → IsSheet s → IsMadeOf s (with_cells s (filter p s.cells))
filtered-named p s h =
    cells-made s (filter p s.cells) h (All-filter p IsNamedCell s.cells h.each) (All-filter p (All (Contains s.names)) s.cells (of-names s h))

pub selection-cells : (all : Bool) (lo hi : ℤ) (s : SheetData) → (selected all lo hi s).cells ≡ flat_map (if_selected all lo hi s) s.cells
selection-cells all lo hi s = filter-as_flat (is_selected all lo hi s) s.cells

pub selection-sheet : (all : Bool) (lo hi : ℤ) (s : SheetData) → IsSheet s → IsMadeOf s (selected all lo hi s)
selection-sheet all lo hi s h = filtered-named (is_selected all lo hi s) s h

-- ---- the test of a scalar

both_true : (a b : Bool) → (a && b) ≡ true → (a ≡ true) × (b ≡ true)
both_true true true h = (refl, refl)
both_true true false h = absurd (true≢false (sym h))
both_true false b h = absurd (true≢false (sym h))

two_true : (a b : Bool) → a ≡ true → b ≡ true → (a && b) ≡ true
two_true true true h k = refl
two_true true false h k = absurd (true≢false (sym k))
two_true false b h k = absurd (true≢false (sym h))

pub test-within : (lo hi : ℤ) (p : Point) → (has_scalar_within lo hi p ≡ true) ↔ IsWithin p lo hi
test-within lo hi p = (
  λ h.
      let both = both_true (int_le (lo *ℤ p.w) p.s) (int_le p.s (hi *ℤ p.w)) h in
      record { above = omega (arith, ints, le-true (lo *ℤ p.w) p.s both.0); below = omega (arith, ints, le-true p.s (hi *ℤ p.w) both.1) },
  λ w. two_true (int_le (lo *ℤ p.w) p.s) (int_le p.s (hi *ℤ p.w)) (sym (true_is_le (lo *ℤ p.w) p.s (omega (arith, ints, w.above)))) (sym (true_is_le p.s (hi *ℤ p.w) (omega (arith, ints, w.below)))),
)
