-- Tests of cells by ranks are those of their names.
use Rattle.std.proofs.Common.{◌≡◌, ℕ, ◌<◌, Bool, true, false, cond, ◌&&◌, ◌||◌, List, [], ◌∷◌, length, get_or, map, refl, sym, ap, ap₂, ◌∙◌, arith}
use Rattle.std.specs.Prelude.{ℤ}
use Rattle.std.specs.List.{All, filter, list_all, list_any}
use Rattle.std.proofs.lemmas.List.{get_or-map}
use Rattle.std.proofs.lemmas.List.Elements.{All-head, All-tail}
use Rattle.viz_fraction.specs.Points.{Point}
use Rattle.viz_sheet.specs.Sheet.{SheetData, IsSheet}
use Rattle.viz_sheet.specs.Kept.{kept}
use Rattle.viz_sheet.specs.Ranked.{IsCell, names_at}
use Rattle.viz_meaning.specs.Section.{point_of, zero_point}
use Rattle.viz_mesh_meaning.specs.Select.{has_scalar_within, holds_of, is_selected}
use Rattle.viz_mesh_meaning.proofs.CellLemmas.{point-at}
use Rattle.viz_select.specs.Steps.{is_marked}

-- a test of all items, and of any, by other items that stand for them
all-same : {X Y : Type 0} (q : X → Bool) (p : Y → Bool) (g : X → Y) (xs : List X) → All (λ x. q x ≡ p (g x)) xs → list_all q xs ≡ list_all p (map g xs)
all-same q p g [] h = refl
all-same q p g (x ∷ xs) h =
    ap₂ (λ a b. a && b) (All-head (λ y. q y ≡ p (g y)) x xs h) (all-same q p g xs (All-tail (λ y. q y ≡ p (g y)) x xs h))

any-same : {X Y : Type 0} (q : X → Bool) (p : Y → Bool) (g : X → Y) (xs : List X) → All (λ x. q x ≡ p (g x)) xs → list_any q xs ≡ list_any p (map g xs)
any-same q p g [] h = refl
any-same q p g (x ∷ xs) h =
    ap₂ (λ a b. a || b) (All-head (λ y. q y ≡ p (g y)) x xs h) (any-same q p g xs (All-tail (λ y. q y ≡ p (g y)) x xs h))

holds-same : {X Y : Type 0} (all : Bool) (q : X → Bool) (p : Y → Bool) (g : X → Y) (xs : List X) → All (λ x. q x ≡ p (g x)) xs → holds_of all q xs ≡ holds_of all p (map g xs)
holds-same true q p g xs h = all-same q p g xs h
holds-same false q p g xs h = any-same q p g xs h

-- the mark of a rank is what is asked of its name's point
mark-at : (lo hi : ℤ) (s : SheetData) (r : ℕ) → IsSheet s → r < length s.names
    → get_or (map (has_scalar_within lo hi) s.points) r false ≡ has_scalar_within lo hi (point_of s (get_or s.names r []))
mark-at lo hi s r h l =
    get_or-map (has_scalar_within lo hi) s.points r zero_point false (omega (arith, h.matched))
    ∙ ap (has_scalar_within lo hi) (sym (point-at s r zero_point h.ascending h.matched l))

pub cell-marked : (all : Bool) (lo hi : ℤ) (s : SheetData) (cell : List ℕ) → IsSheet s → All (λ r. r < length s.names) cell
    → is_marked all (map (has_scalar_within lo hi) s.points) cell ≡ is_selected all lo hi s (names_at s.names cell)
cell-marked all lo hi s cell h below =
    holds-same all (λ r. get_or (map (has_scalar_within lo hi) s.points) r false) (λ n. has_scalar_within lo hi (point_of s n)) (λ r. get_or s.names r []) cell
    (λ k d l. mark-at lo hi s (get_or cell k d) h (below k d l))

-- items that pass a test are those that pass it by another one, item by item
pub kept-filter : {X Y : Type 0} (q : X → Bool) (p : Y → Bool) (g : X → Y) (xs : List X) → All (λ x. q x ≡ p (g x)) xs → kept (map q xs) (map g xs) ≡ filter p (map g xs)
kept-filter q p g [] h = refl
kept-filter q p g (x ∷ xs) h =
    ap₂ (λ b ys. cond b (g x ∷ ys) ys) (All-head (λ y. q y ≡ p (g y)) x xs h) (kept-filter q p g xs (All-tail (λ y. q y ≡ p (g y)) x xs h))
