-- Items that go with those of another list, one by one.
use Rattle.std.proofs.Common.{◌≡◌, ℕ, suc, ◌+◌, ◌<◌, List, [], ◌∷◌, ◌++◌, length, take, sym, subst, ◌∙◌, ap, arith}
use Rattle.std.proofs.Math.Seq.{take-suc}
use Rattle.std.specs.List.{AllZip}
use lib.ListN.{get_or}

pub zip_push : {X Y : Type 0} (R : X → Y → Type 0) (xs : List X) (ys : List Y) (x : X) (y : Y)
    → AllZip R xs ys → R x y → AllZip R (xs ++ x ∷ []) (ys ++ y ∷ [])
zip_push R [] [] x y h r = (r, tt)
zip_push R [] (b ∷ ys) x y h r = absurd h
zip_push R (a ∷ xs) [] x y h r = absurd h
zip_push R (a ∷ xs) (b ∷ ys) x y h r = (h.0, zip_push R xs ys x y h.1 r)

-- one more, as a loop over the first list finds it
pub zip_more : {X Y : Type 0} (R : X → Y → Type 0) (all : List X) (i : ℕ) (d : X)
    (ys next : List Y) (y : Y) → i < length all → AllZip R (take i all) ys → R (get_or all i d) y
    → next ≡ ys ++ y ∷ [] → AllZip R (take (i + 1) all) next
zip_more R all i d ys next y l h r e =
    let next_one : suc i ≡ i + 1 = omega arith in
    subst (AllZip R (take (i + 1) all)) (sym e)
    (subst (λ t. AllZip R t (ys ++ y ∷ []))
    (sym (take-suc all i d l) ∙ ap (λ n. take n all) next_one)
    (zip_push R (take i all) ys (get_or all i d) y h r))

pub zip_map : {X Y : Type 0} (P Q : X → Y → Type 0) → ((x : X) (y : Y) → P x y → Q x y)
    → (xs : List X) (ys : List Y) → AllZip P xs ys → AllZip Q xs ys
zip_map P Q f [] [] z = tt
zip_map P Q f [] (y ∷ ys) z = absurd z
zip_map P Q f (x ∷ xs) [] z = absurd z
zip_map P Q f (x ∷ xs) (y ∷ ys) z = (f x y z.0, zip_map P Q f xs ys z.1)
