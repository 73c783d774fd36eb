-- The names of cells between leaves are the edges of the cells, by their leaves.
use Rattle.std.proofs.Common.{◌≡◌, ℕ, Bool, true, false, cond, List, [], ◌∷◌, map, is_lt, refl, sym, ap, ap₂, ◌∙◌}
use Rattle.std.specs.List.{flat_map}
use Rattle.std.specs.Ordering.{nat_cmp, ordering_then}
use Rattle.viz_meaning.specs.Names as meaning
use Rattle.viz_grid_section.specs.Edges.{Edge, edge_leaves, is_before, with_edge, each_once, edges_of}
use Rattle.viz_grid_section.proofs.EdgeOrder.{is_before-is}
use Rattle.viz_grid_section.proofs.MembersLemmas.{map-pieces}
use Rattle.viz_grid_section.proofs.NamedCells.{then_equal}

-- an edge comes before another just where its name does
before-leaves : (m n : Edge) → meaning.is_before (edge_leaves m) (edge_leaves n) ≡ is_before m n
before-leaves m n =
    ap (λ o. is_lt (ordering_then (nat_cmp m.low n.low) o)) (then_equal (nat_cmp m.high n.high)) ∙ sym (is_before-is m n)

chosen : {X Y : Type 0} (f : X → Y) (p q : Bool) (x y z : X) → cond p (f x) (cond q (f y) (f z)) ≡ f (cond p x (cond q y z))
chosen f true q x y z = refl
chosen f false true x y z = refl
chosen f false false x y z = refl

with-leaves : (n : Edge) (ms : List Edge) → meaning.with_name (edge_leaves n) (map edge_leaves ms) ≡ map edge_leaves (with_edge n ms)
with-leaves n [] = refl
with-leaves n (m ∷ ms) =
    let rest = map edge_leaves ms in
    let put : Bool → Bool → List (List ℕ) → List (List ℕ) = λ p q t. cond p (edge_leaves n ∷ edge_leaves m ∷ rest) (cond q (edge_leaves m ∷ t) (edge_leaves m ∷ rest)) in
    ap₂ (λ p q. put p q (meaning.with_name (edge_leaves n) rest)) (before-leaves n m) (before-leaves m n)
    ∙ ap (put (is_before n m) (is_before m n)) (with-leaves n ms)
    ∙ chosen (map edge_leaves) (is_before n m) (is_before m n) (n ∷ m ∷ ms) (m ∷ with_edge n ms) (m ∷ ms)

once-leaves : (ns : List Edge) → meaning.each_once (map edge_leaves ns) ≡ map edge_leaves (each_once ns)
once-leaves [] = refl
once-leaves (n ∷ ns) = ap (meaning.with_name (edge_leaves n)) (once-leaves ns) ∙ with-leaves n (each_once ns)

-- the names of cells, by their edges
pub names-edges : (cells : List (List Edge)) → meaning.names_of (map (map edge_leaves) cells) ≡ map edge_leaves (edges_of cells)
names-edges cells = ap meaning.each_once (map-pieces edge_leaves cells) ∙ once-leaves (flat_map (λ (cell : List Edge). cell) cells)
