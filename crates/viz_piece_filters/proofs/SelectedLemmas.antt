-- The selection of a part.
use Rattle.std.proofs.Common.{◌≡◌, Bool, true, false, cond, ⊎_elim, ◌&&◌, ◌||◌, List, [], ◌∷◌, ◌++◌, length, map, replicate, refl, sym, ap, ap₂, subst}
use Rattle.std.specs.Prelude.{ℤ}
use Rattle.std.specs.List.{Contains, list_all, list_any}
use Rattle.viz_meaning.specs.Section.{point_of}
use Rattle.viz_mesh_meaning.specs.Cells.{with_cells}
use Rattle.viz_mesh_meaning.specs.Select.{has_scalar_within, holds_of, if_selected, is_selected, selected}
use Rattle.viz_mesh_meaning.proofs.SelectLemmas.{filter-as_flat}
use Rattle.viz_parts.specs.Parts.{PartSheetData}
use Rattle.viz_sheet.specs.Kept.{kept}
use Rattle.viz_sheet.specs.Sheet.{SheetData}
use Rattle.viz_sheet.proofs.MemberLemmas.{here, there, member_cases, no_member}
use Rattle.viz_mesh_meaning.specs.Cells.{Cell}
use Rattle.viz_piece_filters.specs.Names.{Name}
use Rattle.viz_parts.specs.Pieces.{IsPartOf}
use Rattle.viz_piece_filters.specs.HandedOn.{counts, handed_on}
use Rattle.viz_piece_filters.specs.Made.{AgreeOn, HaveParents, made_part, made_sheet}
use Rattle.viz_piece_filters.specs.Filters.{SelectionsKeepParts, kept_selected, selected_part}
use Rattle.viz_piece_filters.proofs.MadeLemmas.{cell_name, made_keep, same_point}

-- ---- a test that agrees on the names of a cell

all_same : (t u : Name → Bool) (xs : List Name) → ((x : Name) → Contains xs x → t x ≡ u x) → list_all t xs ≡ list_all u xs
all_same t u [] h = refl
all_same t u (x ∷ xs) h = ap₂ (λ a b. a && b) (h x (here x xs)) (all_same t u xs (λ y c. h y (there x xs y c)))

any_same : (t u : Name → Bool) (xs : List Name) → ((x : Name) → Contains xs x → t x ≡ u x) → list_any t xs ≡ list_any u xs
any_same t u [] h = refl
any_same t u (x ∷ xs) h = ap₂ (λ a b. a || b) (h x (here x xs)) (any_same t u xs (λ y c. h y (there x xs y c)))

holds_same : (all : Bool) (t u : Name → Bool) (xs : List Name) → ((x : Name) → Contains xs x → t x ≡ u x) → holds_of all t xs ≡ holds_of all u xs
holds_same true t u xs h = all_same t u xs h
holds_same false t u xs h = any_same t u xs h

-- ---- cells that are kept or not

kept_is : (b : Bool) (c x : Cell) → Contains (cond b (c ∷ []) []) x → c ≡ x
kept_is true c x m = ⊎_elim (λ e. e) (λ no. absurd (no_member x no)) (member_cases c [] x m)
kept_is false c x m = absurd (no_member x m)

pub spread_kept : {A : Type 0} (t : Cell → Bool) (cells : List Cell) (os : List A) → handed_on os (counts (λ c. cond (t c) (c ∷ []) []) cells) ≡ kept (map t cells) os
spread_kept t [] [] = refl
spread_kept t [] (o ∷ os) = refl
spread_kept t (c ∷ cells) [] = refl
spread_kept {A = A} t (c ∷ cells) (o ∷ os) = one (t c) (handed_on os (counts (λ c. cond (t c) (c ∷ []) []) cells)) (kept (map t cells) os) (spread_kept t cells os)
  where
    one : (b : Bool) (xs ys : List A) → xs ≡ ys → replicate (length (cond b (c ∷ []) [])) o ++ xs ≡ cond b (o ∷ ys) ys
    one true xs ys e = ap (λ r. o ∷ r) e
    one false xs ys e = e

-- ---- the law

selected_made : (all : Bool) (lo hi : ℤ) (s : SheetData) → made_sheet (if_selected all lo hi s) (point_of s) s ≡ selected all lo hi s
selected_made all lo hi s = ap (with_cells s) (sym (filter-as_flat (is_selected all lo hi s) s.cells))

part_made : (all : Bool) (lo hi : ℤ) (part : PartSheetData) → made_part (if_selected all lo hi part.sheet) (point_of part.sheet) part ≡ selected_part all lo hi part
part_made all lo hi part = λ i. record {
  sheet = selected_made all lo hi part.sheet i;
  levels = spread_kept (is_selected all lo hi part.sheet) part.sheet.cells part.levels i;
}

pub selections_keep : SelectionsKeepParts
selections_keep all lo hi whole own ghosts part hw hp is =
    let w = part.sheet in
    let f = if_selected all lo hi whole in
    let g = if_selected all lo hi w in
    let same = same_point whole w hw hp is.points in
    let test : (c : Cell) → Contains w.cells c → is_selected all lo hi w c ≡ is_selected all lo hi whole c =
    λ c i. holds_same all (λ n. has_scalar_within lo hi (point_of w n)) (λ n. has_scalar_within lo hi (point_of whole n)) c
    (λ n j. ap (has_scalar_within lo hi) (same n (cell_name w hp c n i j))) in
    let agree : AgreeOn w.cells f g (point_of whole) (point_of w) = record {
      cells = λ c i. ap (λ b. cond b (c ∷ []) []) (test c i);
      points = λ c x n i j k. same n (cell_name w hp c n i (subst (λ y. Contains y n) (sym (kept_is (is_selected all lo hi whole c) c x j)) k));
    } in
    let parents : HaveParents f (λ n. n) whole.cells =
    λ c x n i j k. subst (λ y. Contains y n) (sym (kept_is (is_selected all lo hi whole c) c x j)) k in
    let made = made_keep f g (point_of whole) (point_of w) (λ n. n) whole own ghosts part parents agree is in
    subst (λ r. IsPartOf (selected all lo hi whole) (kept_selected all lo hi whole own) ghosts r) (part_made all lo hi part)
    (subst (λ o. IsPartOf (selected all lo hi whole) o ghosts (made_part g (point_of w) part)) (spread_kept (is_selected all lo hi whole) whole.cells own)
    (subst (λ s. IsPartOf s (handed_on own (counts f whole.cells)) ghosts (made_part g (point_of w) part)) (selected_made all lo hi whole) made))
