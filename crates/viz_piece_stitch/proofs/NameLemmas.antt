-- Names of parts, one after the other.
use Rattle.std.proofs.Common.{◌≡◌, List, [], ◌∷◌, ◌++◌, length, map, refl, sym, append-nil, arith}

-- a list without items adds none
pub none_added : {X : Type 0} (xs ys : List X) → length ys ≡ 0 → xs ≡ xs ++ ys
none_added xs [] e = sym (append-nil xs)
none_added xs (y ∷ ys) e = absurd (omega arith)

-- a map over a list without items has none
pub no_items : {X Y : Type 0} (f : X → Y) (xs : List X) → length xs ≡ 0 → [] ≡ map f xs
no_items f [] e = refl
no_items f (x ∷ xs) e = absurd (omega arith)
