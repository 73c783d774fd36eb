-- A tale by the numbers of the passes that made its entries (docs/ARCHITECTURE.md, "A turn").
use Rattle.std.specs.Prelude.{◌≡◌, ℕ, List, [], ◌∷◌, ◌++◌, Bool, true, false, not, cond, ◌&&◌}
use Rattle.std.specs.Prelude.{◌||◌, ◌==◌}
use mathlib.Core.Option.{some}
use lib.ListN.{get_elem?}

-- the number stands in the list
abbrev pub has : ℕ → List ℕ → Bool
has x [] = false
has x (y ∷ ys) = (x == y) || has x ys

-- no number stands there twice
abbrev pub once : List ℕ → Bool
once [] = true
once (x ∷ xs) = not (has x xs) && once xs

-- the first pass, and each that was split off, is among these numbers
pub record IsWholeBy (ns born : List ℕ) : Type 0 where
  pub first : has 0 ns ≡ true
  pub all : (n : ℕ) → has n born ≡ true → has n ns ≡ true

-- the longer of two lists of which one begins the other
abbrev pub longer : {E : Type 0} → List E → List E → List E
longer [] ys = ys
longer (x ∷ xs) [] = x ∷ xs
longer (x ∷ xs) (y ∷ ys) = x ∷ longer xs ys

-- by: the number of the pass that made an entry
module _ {E : Type 0} (by : E → ℕ) where
  -- no entry has one of these numbers
  abbrev pub clear : List ℕ → List E → Bool
  clear ns [] = true
  clear ns (e ∷ es) = not (has (by e) ns) && clear ns es

  -- the entries with one of these numbers, in order
  abbrev pub entries_of : List ℕ → List E → List E
  entries_of ns [] = []
  entries_of ns (e ∷ es) = cond (has (by e) ns) (e ∷ entries_of ns es) (entries_of ns es)

  -- the tale goes on after what was seen, and no entry of the rest has one of these numbers
  abbrev pub GoesOn : List ℕ → List E → List E → Type 0
  GoesOn ns seen tale = (rest : List E) × (tale ≡ seen ++ rest) × (clear ns rest ≡ true)

  -- each entry has one of these numbers
  abbrev pub HasNoOther : List ℕ → List E → Type 0
  HasNoOther ns tale = (k : ℕ) (e : E) → get_elem? tale k ≡ some e → has (by e) ns ≡ true
