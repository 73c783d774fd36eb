-- The values of a function of indices, in the order of the points of an extent: words of private
-- contracts alone.
use Rattle.std.specs.Prelude.{ℕ, zero, suc, ◌+◌, ℤ, List, [], ◌∷◌, ◌++◌}
use Rattle.viz_extent.specs.Extent.{Bounds, size_x, size_y, size_z}

-- the lists of so many indices, from one on, one after the other
abbrev pub joined : {X : Type 0} → (ℕ → List X) → ℕ → ℕ → List X
joined f first zero = []
joined f first (suc n) = joined f first n ++ f (first + n)

-- the values of so many indices, from one on
abbrev pub run_of : {X : Type 0} → (ℕ → X) → ℕ → ℕ → List X
run_of f first n = joined (λ i. f i ∷ []) first n

-- the values at all points of an extent, in their order
abbrev pub values_on : (ℕ → ℕ → ℕ → ℤ) → Bounds → List ℤ
values_on number b =
    joined (λ k. joined (λ j. run_of (λ i. number i j k) b.x0 (size_x b)) b.y0 (size_y b)) b.z0
    (size_z b)
