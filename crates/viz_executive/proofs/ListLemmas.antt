-- Lists as loops and reads give them.
use Rattle.std.proofs.Common.{◌≡◌, ℕ, suc, ◌+◌, ◌<◌, arith, take, List, [], ◌∷◌, ◌++◌, length, map, Some, slice_get, sym, subst, ◌∙◌, ap}
use Rattle.std.proofs.Math.Seq.{take-suc}
use Rattle.std.proofs.lemmas.List.{map-append}
use Rattle.std.proofs.lemmas.Option.{slice_get-get_or}
use lib.ListN.{get_or}

-- what is read at a place
pub read_at : {X : Type 0} (xs ys : List X) (i : ℕ) (x : X) → i < length xs → x ≡ get_or xs i x
    → xs ≡ ys → slice_get ys i ≡ Some x
read_at xs ys i x l is same =
    subst (λ zs. slice_get zs i ≡ Some x) same (slice_get-get_or xs i x l ∙ ap Some (sym is))

-- one more, where what is made of the items so far are those of a list
pub map_more : {X Y : Type 0} (f : X → Y) (xs : List X) (x : X) (next : List X) (all : List Y)
    (i : ℕ) (d : Y) → i < length all → map f xs ≡ take i all → f x ≡ get_or all i d
    → next ≡ xs ++ x ∷ [] → map f next ≡ take (i + 1) all
map_more f xs x next all i d l e is n =
    let next_one : suc i ≡ i + 1 = omega arith in
    ap (λ l. map f l) n ∙ map-append f xs (x ∷ []) ∙ ap (λ l. l ++ f x ∷ []) e
    ∙ ap (λ y. take i all ++ y ∷ []) is ∙ sym (take-suc all i d l) ∙ ap (λ n. take n all) next_one
