-- Bits of words and the flags of corners.
use Rattle.std.proofs.Common.{◌≡◌, ℕ, zero, suc, ◌+◌, ◌<◌, ◌==◌, Bool, true, false, List, [], ◌∷◌, get_or, length, map, refl, ap, ◌∙◌, arith}
use Rattle.viz_mixed.specs.Mixed.{corners_from}
use Rattle.viz_mixed.specs.Steps.Words.{bit_of}

pub bit-is : (x : ℕ) → x < 2 → x ≡ bit_of (x == 1)
bit-is zero l = refl
bit-is (suc zero) l = refl
bit-is (suc (suc x)) l = absurd (omega arith)

pub flag-is : (x : ℕ) (f : Bool) → x ≡ bit_of f → (x == 1) ≡ f
flag-is x true e = ap (λ k. k == 1) e
flag-is x false e = ap (λ k. k == 1) e

-- eight bits are the flags of the corners of a cube
pub eight-flags : (flags : List Bool) (lowest row plane t : ℕ) (a b c d e f g h : Bool)
    → a ≡ get_or flags (lowest + t) false → b ≡ get_or flags (lowest + plane + t) false → c ≡ get_or flags (lowest + row + t) false → d ≡ get_or flags (lowest + row + plane + t) false
    → e ≡ get_or flags (lowest + 1 + t) false → f ≡ get_or flags (lowest + 1 + plane + t) false → g ≡ get_or flags (lowest + 1 + row + t) false
    → h ≡ get_or flags (lowest + 1 + row + plane + t) false
    → a ∷ b ∷ c ∷ d ∷ e ∷ f ∷ g ∷ h ∷ [] ≡ corners_from flags row plane (lowest + t)
eight-flags flags lowest row plane t a b c d e f g h ea eb ec ed ee ef eg eh =
    λ i.
    ea i
    ∷ at b (lowest + plane + t) (lowest + t + plane) eb (omega arith) i
    ∷ at c (lowest + row + t) (lowest + t + row) ec (omega arith) i
    ∷ at d (lowest + row + plane + t) (lowest + t + row + plane) ed (omega arith) i
    ∷ at e (lowest + 1 + t) (lowest + t + 1) ee (omega arith) i
    ∷ at f (lowest + 1 + plane + t) (lowest + t + 1 + plane) ef (omega arith) i
    ∷ at g (lowest + 1 + row + t) (lowest + t + 1 + row) eg (omega arith) i
    ∷ at h (lowest + 1 + row + plane + t) (lowest + t + 1 + row + plane) eh (omega arith) i
    ∷ []
  where
    at : (x : Bool) (n m : ℕ) → x ≡ get_or flags n false → n ≡ m → x ≡ get_or flags m false
    at x n m ex e = ex ∙ ap (λ k. get_or flags k false) e

-- a function of each of eight items
pub each_of_eight : {A B : Type 0} (f : A → B) (d : A) (xs : List A) → length xs ≡ 8 → (p q r s t u v w : B)
    → p ≡ f (get_or xs 0 d) → q ≡ f (get_or xs 1 d) → r ≡ f (get_or xs 2 d) → s ≡ f (get_or xs 3 d)
    → t ≡ f (get_or xs 4 d) → u ≡ f (get_or xs 5 d) → v ≡ f (get_or xs 6 d) → w ≡ f (get_or xs 7 d)
    → p ∷ q ∷ r ∷ s ∷ t ∷ u ∷ v ∷ w ∷ [] ≡ map f xs
each_of_eight f d (a1 ∷ a2 ∷ a3 ∷ a4 ∷ a5 ∷ a6 ∷ a7 ∷ a8 ∷ []) size p q r s t u v w e1 e2 e3 e4 e5 e6 e7 e8 = cc
each_of_eight f d _ size p q r s t u v w e1 e2 e3 e4 e5 e6 e7 e8 = absurd (omega (arith, size))
