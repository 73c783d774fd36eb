-- A list that is changed item by item.
use Rattle.std.proofs.Common.{◌≡◌, ℕ, zero, suc, ◌<◌, ◌≤◌, List, [], ◌∷◌, length, get_or, set, map, refl, sym, ap, subst, arith}
use Rattle.std.specs.List.{All}
use Rattle.std.proofs.lemmas.List.Elements.{All-get_or}

pub changed : (f : List ℕ → List ℕ) (old : List (List ℕ)) (i : ℕ) → List (List ℕ)
changed f [] i = []
changed f (x ∷ xs) zero = x ∷ xs
changed f (x ∷ xs) (suc i) = f x ∷ changed f xs i

pub changed_none : (f : List ℕ → List ℕ) (old : List (List ℕ)) → old ≡ changed f old 0
unfolding changed
changed_none f [] = refl
changed_none f (x ∷ xs) = refl

pub changed_length : (f : List ℕ → List ℕ) (old : List (List ℕ)) (i : ℕ) → length (changed f old i) ≡ length old
unfolding changed
changed_length f [] i = refl
changed_length f (x ∷ xs) zero = refl
changed_length f (x ∷ xs) (suc i) = ap (λ n. suc n) (changed_length f xs i)

pub changed_at : (f : List ℕ → List ℕ) (old : List (List ℕ)) (i : ℕ) (d : List ℕ) → get_or (changed f old i) i d ≡ get_or old i d
unfolding changed
changed_at f [] i d = refl
changed_at f (x ∷ xs) zero d = refl
changed_at f (x ∷ xs) (suc i) d = changed_at f xs i d

pub changed_within : (P : List ℕ → Type 0) (f : List ℕ → List ℕ) (old : List (List ℕ)) (i : ℕ) → i < length old → All P old → P (get_or (changed f old i) i [])
changed_within P f old i h each = subst P (sym (changed_at f old i [])) (All-get_or P old i [] h each)

pub changed_more : (f : List ℕ → List ℕ) (old : List (List ℕ)) (i : ℕ) (d : List ℕ) → i < length old → set (changed f old i) i (f (get_or old i d)) ≡ changed f old (suc i)
unfolding changed
changed_more f [] i d h = absurd (omega arith)
changed_more f (x ∷ []) zero d h = refl
changed_more f (x ∷ y ∷ ys) zero d h = refl
changed_more f (x ∷ xs) (suc i) d h = ap (λ l. f x ∷ l) (changed_more f xs i d (omega arith))

pub changed_all : (f : List ℕ → List ℕ) (old : List (List ℕ)) (i : ℕ) → length old ≤ i → changed f old i ≡ map f old
unfolding changed
changed_all f [] i h = refl
changed_all f (x ∷ xs) zero h = absurd (omega arith)
changed_all f (x ∷ xs) (suc i) h = ap (λ l. f x ∷ l) (changed_all f xs i (omega arith))
