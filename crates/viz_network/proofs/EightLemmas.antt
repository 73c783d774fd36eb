-- A list of eight items, item by item.
use Rattle.std.proofs.Common.{◌≡◌, List, [], ◌∷◌, length, map, get_or, arith}

-- a function of each of eight items
pub each_of_eight : {A B : Type 0} (f : A → B) (d : A) (xs : List A) → length xs ≡ 8 → (p q r s t u v w : B)
    → p ≡ f (get_or xs 0 d) → q ≡ f (get_or xs 1 d) → r ≡ f (get_or xs 2 d) → s ≡ f (get_or xs 3 d)
    → t ≡ f (get_or xs 4 d) → u ≡ f (get_or xs 5 d) → v ≡ f (get_or xs 6 d) → w ≡ f (get_or xs 7 d)
    → p ∷ q ∷ r ∷ s ∷ t ∷ u ∷ v ∷ w ∷ [] ≡ map f xs
each_of_eight f d (a1 ∷ a2 ∷ a3 ∷ a4 ∷ a5 ∷ a6 ∷ a7 ∷ a8 ∷ []) size p q r s t u v w e1 e2 e3 e4 e5 e6 e7 e8 = cc
each_of_eight f d _ size p q r s t u v w e1 e2 e3 e4 e5 e6 e7 e8 = absurd (omega (arith, size))
