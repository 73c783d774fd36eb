-- One more item of what a loop makes, behind what was there before.
use Rattle.std.proofs.Common.{◌≡◌, ℕ, ◌+◌, ◌<◌, ◌≤◌, Bool, true, false, List, [], ◌∷◌, ◌++◌, length, get_or, map, take, cond, refl, sym, ap, ap₂, ◌∙◌, append_assoc, arith}
use Rattle.std.specs.List.{flat_map, range_with_len}
use Rattle.std.proofs.lemmas.List.{flat_map_more, take_all, take_more}
use Rattle.std.proofs.lemmas.List.FromFn.{get_or-range_with_len, length-range_with_len}
use Rattle.viz_sheet.specs.Kept.{kept}
use Rattle.viz_sheet.proofs.KeptLemmas.{kept-take_more}
use Rattle.viz_cells.proofs.NumberLemmas.{map-more}
use Rattle.viz_clip.specs.Steps.Numbers.{ranks_inside}

-- behind other items, one more item by a function
pub behind-more : {X Y : Type 0} (f : X → Y) (old ys new : List Y) (xs : List X) (i : ℕ) (x : X) (y : Y) → i < length xs → x ≡ get_or xs i x → new ≡ ys ++ y ∷ []
    → ys ≡ old ++ map f (take i xs) → y ≡ f x → new ≡ old ++ map f (take (i + 1) xs)
behind-more f old ys new xs i x y l e is h v =
    is ∙ ap (λ t. t ++ y ∷ []) h ∙ append_assoc old (map f (take i xs)) (y ∷ []) ∙ ap (λ t. old ++ t) (map-more f xs i x (map f (take i xs)) y l e refl v)

-- one more piece of a flattened list
pub flat-more : {X Y : Type 0} (f : X → List Y) (ys new : List Y) (xs : List X) (i : ℕ) (x d : X) → i < length xs → x ≡ get_or xs i d → new ≡ ys ++ f x
    → ys ≡ flat_map f (take i xs) → new ≡ flat_map f (take (i + 1) xs)
flat-more f ys new xs i x d l e is h =
    is ∙ ap₂ (λ t z. t ++ f z) h e ∙ flat_map_more f [] (take i xs) (get_or xs i d) ∙ ap (flat_map f) (sym (take_more xs i d l))

-- one more rank, if it is that of a marked item
pub kept-more : (marks : List Bool) (ys new : List ℕ) (i : ℕ) → i < length marks → new ≡ ys ++ cond (get_or marks i false) (i ∷ []) []
    → ys ≡ kept (take i marks) (take i (range_with_len 0 (length marks))) → new ≡ kept (take (i + 1) marks) (take (i + 1) (range_with_len 0 (length marks)))
kept-more marks ys new i l is h =
    let all = range_with_len 0 (length marks) in
    let count : length all ≡ length marks = length-range_with_len 0 (length marks) in
    let at : get_or all i 0 ≡ i = get_or-range_with_len 0 (length marks) i 0 l ∙ zero-plus i in
    is ∙ ap₂ (λ t z. t ++ cond (get_or marks i false) (z ∷ []) []) h (sym at)
    ∙ sym (kept-take_more marks all i 0 (sym count) (omega (arith, count, l)))
  where
    zero-plus : (k : ℕ) → 0 + k ≡ k
    zero-plus k = omega arith

pub kept-all : (marks : List Bool) (ys : List ℕ) (i : ℕ) → length marks ≤ i → ys ≡ kept (take i marks) (take i (range_with_len 0 (length marks))) → ys ≡ ranks_inside marks
kept-all marks ys i whole h =
    let all = range_with_len 0 (length marks) in
    h ∙ ap₂ kept (take_all i marks whole) (take_all i all (omega (arith, whole, length-range_with_len 0 (length marks))))
