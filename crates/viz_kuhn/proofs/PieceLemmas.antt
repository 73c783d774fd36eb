-- Lists joined of pieces that are all as long.
use Rattle.std.proofs.Common.{◌≡◌, ℕ, zero, suc, ◌+◌, ◌*◌, ◌<◌, List, [], ◌∷◌, length, get_or, ◌∙◌, arith}
use Rattle.std.proofs.lemmas.List.{length-append, get_or_append_left, get_or-append-add}
use Rattle.std.specs.Prelude.{flat_map}

-- pieces of n items have n items each together
pub length-pieces : {X A : Type 0} (f : X → List A) (n : ℕ) → ((x : X) → length (f x) ≡ n)
    → (xs : List X) → length (flat_map f xs) ≡ length xs * n
length-pieces f n each [] = omega arith
length-pieces f n each (x ∷ xs) =
    omega (arith, length-append (f x) (flat_map f xs), each x, length-pieces f n each xs)

-- item i * n + j is item j of piece i
pub get_or-pieces : {X A : Type 0} (f : X → List A) (n : ℕ) → ((x : X) → length (f x) ≡ n)
    → (xs : List X) (i j : ℕ) (e : X) (d : A) → i < length xs → j < n
    → get_or (flat_map f xs) (i * n + j) d ≡ get_or (f (get_or xs i e)) j d
get_or-pieces f n each [] i j e d within short = absurd (omega arith)
get_or-pieces f n each (x ∷ xs) zero j e d within short =
    let start : 0 * n + j ≡ j = omega arith in
    rw start (get_or_append_left (f x) (flat_map f xs) d j (omega (arith, each x)))
get_or-pieces f n each (x ∷ xs) (suc i) j e d within short =
    let later : suc i * n + j ≡ length (f x) + (i * n + j) = omega (arith, each x) in
    rw later (get_or-append-add (f x) (flat_map f xs) (i * n + j) d ∙ get_or-pieces f n each xs i j e d (omega arith) short)
