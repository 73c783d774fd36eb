-- Private: directed sides as numbers, the side without its direction doubled, and one more where
-- it runs back.
use Rattle.std.specs.Prelude.{ℕ, ◌+◌, ◌-◌, ◌*◌, ◌/◌, ◌%◌, ◌^◌, ◌≤◌, ◌==◌, ◌&&◌, Bool, true, List}
use Rattle.std.specs.Prelude.{[], ◌∷◌, nat_eq, nat_lt, map, count_by, if◌then◌else◌}
use Rattle.std.specs.List.{flat_map}
use Rattle.std.specs.Set.{unique_keys}

-- the number of a key's side
abbrev pub half : ℕ → ℕ
half key = key / 2

-- how many keys run forth along a side
abbrev pub forth : List ℕ → ℕ → ℕ
forth keys side = count_by (λ key. key == 2 * side) keys

-- and how many back
abbrev pub back : List ℕ → ℕ → ℕ
back keys side = count_by (λ key. key == 2 * side + 1) keys

-- how many sides pass a test on how often they are run through
abbrev pub passing : (ℕ → ℕ → ℕ → Bool) → List ℕ → ℕ
passing test keys = count_by (λ side. test side (forth keys side) (back keys side))
    (unique_keys nat_eq (map half keys))

-- any side
abbrev pub any_side : ℕ → ℕ → ℕ → Bool
any_side side f b = true

-- one in two triangles that run through it in opposite directions
abbrev pub in_two : ℕ → ℕ → ℕ → Bool
in_two side f b = (f == 1) && (b == 1)

-- one in exactly one
abbrev pub in_one : ℕ → ℕ → ℕ → Bool
in_one side f b = f + b == 1

-- keys that don't descend
abbrev pub Ascend : List ℕ → Type 0
Ascend [] = Unit {0}
Ascend (k ∷ []) = Unit {0}
Ascend (k ∷ l ∷ ks) = (k ≤ l) × Ascend (l ∷ ks)

-- one pass: the side at hand has been run through so often
abbrev pub tallied : (ℕ → ℕ → ℕ → Bool) → ℕ → ℕ → ℕ → List ℕ → ℕ
tallied test u f b [] = if test u f b then 1 else 0
tallied test u f b (k ∷ ks) =
    if half k == u then tallied test u (f + (1 - k % 2)) (b + k % 2) ks
    else (if test u f b then 1 else 0) + tallied test (half k) (1 - k % 2) (k % 2) ks

-- the key of a side from one rank to another
abbrev pub key_of : ℕ → ℕ → ℕ
key_of p q = if nat_lt p q then 2 * (p * 2 ^ 31 + q) else 2 * (q * 2 ^ 31 + p) + 1

-- the keys of the sides of a triangle
abbrev pub keys_of : List ℕ → List ℕ
keys_of (p ∷ q ∷ r ∷ []) = key_of p q ∷ key_of q r ∷ key_of r p ∷ []
keys_of _ = []

-- the keys of the sides of triangles
abbrev pub keys_in : List (List ℕ) → List ℕ
keys_in triangles = flat_map keys_of triangles
