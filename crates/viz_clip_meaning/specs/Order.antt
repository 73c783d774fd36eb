-- Items of a set in ascending order, as ids of points are compared where a cell is split (Dompierre
-- et al. 1999, "How to subdivide pyramids, prisms and hexahedra into tetrahedra").
use Rattle.std.specs.Prelude.{Bool, List, [], ◌∷◌, if◌then◌else◌}
use Rattle.std.specs.declared.cmp.Ordering.{Ordering}
use Rattle.std.specs.List.{list_all}
use Rattle.std.specs.Ordering.{is_lt}

-- an item among others that ascend, once
abbrev pub with_item : {X : Type 0} → (X → X → Ordering) → X → List X → List X
with_item cmp x [] = x ∷ []
with_item cmp x (y ∷ ys) = if is_lt (cmp x y) then x ∷ y ∷ ys else if is_lt (cmp y x)
    then y ∷ with_item cmp x ys else y ∷ ys

-- the items, each once, ascending
abbrev pub ascending : {X : Type 0} → (X → X → Ordering) → List X → List X
ascending cmp [] = []
ascending cmp (x ∷ xs) = with_item cmp x (ascending cmp xs)

-- whether an item comes before each of others
abbrev pub is_least : {X : Type 0} → (X → X → Ordering) → X → List X → Bool
is_least cmp x others = list_all (λ y. is_lt (cmp x y)) others
