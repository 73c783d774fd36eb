-- A node that stands in front of another can feed it: no cycle is closed, and the order stays.
use Rattle.std.proofs.Common.{◌≡◌, ℕ, zero, suc, ◌-◌, Bool, true, false, cond, nat_eq, ◌⊎◌, inl, inr, true≢false, List, [], ◌∷◌, ◌++◌, slice_set, Option, None, Some, refl, sym, ap, subst, ◌∙◌}
use Rattle.std.proofs.lemmas.Bool.{eqb-true, eq-eqb}
use Rattle.std.specs.List.{AllByRecursion}
use Rattle.std.specs.Option.{option_map}
use Rattle.std.specs.Map.{lookup}
use Rattle.std.specs.Cmp.Lexicographic.{pointwise}
use Rattle.viz_base.specs.declared.node.NodeId.{NodeId}
use Rattle.viz_network.specs.declared.node.Node.{Node}
use Rattle.viz_network.specs.Network.{Network, named, node_of, change}
use Rattle.viz_network.specs.Edits.{connected}
use Rattle.viz_network.specs.Cone.{Tree, grow, above, either, has_node, cone_of}
use Rattle.viz_network.specs.Steps.Order.{Has, IsFedFrom, Stands, IsOrder, comes_first}
use Rattle.viz_network.proofs.TaleLemmas.{node_id, holds, joined_port}
use Rattle.viz_network.proofs.StandsLemmas.{Has-left, Has-right}

some_node : (a b : Node) → Some a ≡ Some b → a ≡ b
some_node a b p = let pick : Option Node → Node = λ o. elim o [ Some z ↦ z | None ↦ a ] in ap pick p

-- a change under a name is of that node alone
pub change_node : (f : Node → Node) → ((n : Node) → (f n).id ≡ n.id) → (net : Network) (name : List ℕ) (b : Node) → named net name ≡ Some b
    → (x : ℕ) (m : Node) → node_of net x ≡ Some m → (node_of (change f net name) x ≡ Some m) ⊎ ((x ≡ b.id.0) × (node_of (change f net name) x ≡ Some (f m)))
change_node f keeps [] name b h x m at = let bad : ⊥ = cc in absurd bad
change_node f keeps (e ∷ net) name b h x m at = by (pointwise nat_eq name e.0) h (change_node f keeps net name b)
  where
    by : (t : Bool) → cond t (Some e.1) (lookup (pointwise nat_eq name) net) ≡ Some b
        → (named net name ≡ Some b → (y : ℕ) (v : Node) → node_of net y ≡ Some v → (node_of (change f net name) y ≡ Some v) ⊎ ((y ≡ b.id.0) × (node_of (change f net name) y ≡ Some (f v))))
        → (node_of (cond t ((e.0, f e.1) ∷ net) (e ∷ change f net name)) x ≡ Some m) ⊎ ((x ≡ b.id.0) × (node_of (cond t ((e.0, f e.1) ∷ net) (e ∷ change f net name)) x ≡ Some (f m)))
    by true p rest = inner (nat_eq x e.1.id.0) refl at
      where
        inner : (t : Bool) → nat_eq x e.1.id.0 ≡ t → cond t (Some e.1) (node_of net x) ≡ Some m
            → (node_of ((e.0, f e.1) ∷ net) x ≡ Some m) ⊎ ((x ≡ b.id.0) × (node_of ((e.0, f e.1) ∷ net) x ≡ Some (f m)))
        inner true q r =
            let here : nat_eq x (f e.1).id.0 ≡ true = ap (λ i. nat_eq x i.0) (keeps e.1) ∙ q in
            inr (eqb-true x e.1.id.0 q ∙ ap (λ v. v.id.0) (some_node e.1 b p), ap (λ t. cond t (Some (f e.1)) (node_of net x)) here ∙ ap (λ v. Some (f v)) (some_node e.1 m r))
        inner false q r =
            let here : nat_eq x (f e.1).id.0 ≡ false = ap (λ i. nat_eq x i.0) (keeps e.1) ∙ q in
            inl (ap (λ t. cond t (Some (f e.1)) (node_of net x)) here ∙ r)
    by false p rest = inner (nat_eq x e.1.id.0) at
      where
        inner : (t : Bool) → cond t (Some e.1) (node_of net x) ≡ Some m
            → (cond t (Some e.1) (node_of (change f net name) x) ≡ Some m) ⊎ ((x ≡ b.id.0) × (cond t (Some e.1) (node_of (change f net name) x) ≡ Some (f m)))
        inner true r = inl r
        inner false r = rest p x m r

pub same_node_id : (a b : NodeId) → a.0 ≡ b.0 → a ≡ b
same_node_id a b e = let made : ℕ → NodeId = λ i. record { 0 = i } in ap made e

-- a list with one node more
has_last : (front : List NodeId) (x y : NodeId) → Has (front ++ x ∷ []) y → Has front y ⊎ (y ≡ x)
has_last [] x y (inl e) = inr e
has_last [] x y (inr h) = absurd h
has_last (z ∷ front) x y (inl e) = inl (inl e)
has_last (z ∷ front) x y (inr h) = elim (has_last front x y h) [ inl k ↦ inl (inr k) | inr e ↦ inr e ]

-- in front of the first place of a node no cone has it
module _ (net : Network) (to : ℕ) where
  clear_inputs : (front : List NodeId) → ((y : NodeId) (m : ℕ) → Has front y → has_node to (above m net y.0) ≡ false) → (m : ℕ) (inputs : List (Option NodeId))
      → AllByRecursion (IsFedFrom front) inputs → holds to (grow (above m net) inputs) ≡ false
  clear_inputs front clear m [] h = refl
  clear_inputs front clear m (None ∷ inputs) h = clear_inputs front clear m inputs h.1
  clear_inputs front clear m (Some id ∷ inputs) h =
      joined_port either false (λ (n : Node). nat_eq to n.id.0) (λ b. refl) (above m net id.0) (grow (above m net) inputs)
      ∙ ap (λ b. either b (holds to (grow (above m net) inputs))) (clear id m h.0) ∙ clear_inputs front clear m inputs h.1

  clear_node : (front : List NodeId) → ((y : NodeId) (m : ℕ) → Has front y → has_node to (above m net y.0) ≡ false) → (x : NodeId) (n : Node) → node_of net x.0 ≡ Some n
      → AllByRecursion (IsFedFrom front) n.inputs → nat_eq to x.0 ≡ false → (m : ℕ) → has_node to (above m net x.0) ≡ false
  clear_node front clear x n at fed differs zero = refl
  clear_node front clear x n at fed differs (suc m) =
      let tree : Node → Tree = λ v. (v, grow (above m net) v.inputs) in
      let other : nat_eq to n.id.0 ≡ false = subst (λ i. nat_eq to i ≡ false) (sym (node_id net x.0 n at)) differs in
      ap (λ o. has_node to (option_map tree o)) at ∙ ap (λ b. either b (holds to (grow (above m net) n.inputs))) other ∙ clear_inputs front clear m n.inputs fed

  clear_first : (from : ℕ) (front xs : List NodeId) → ((y : NodeId) (m : ℕ) → Has front y → has_node to (above m net y.0) ≡ false) → Stands net front xs
      → comes_first from to xs ≡ true → (m : ℕ) → has_node to (above m net from) ≡ false
  clear_first from front [] clear s h m = absurd (true≢false (sym h))
  clear_first from front (x ∷ xs) clear s h m = by (nat_eq to x.0) refl h (clear_first from (front ++ x ∷ []) xs)
    where
      by : (b : Bool) → nat_eq to x.0 ≡ b → cond b false (cond (nat_eq from x.0) true (comes_first from to xs)) ≡ true
          → (((y : NodeId) (k : ℕ) → Has (front ++ x ∷ []) y → has_node to (above k net y.0) ≡ false) → Stands net (front ++ x ∷ []) xs → comes_first from to xs ≡ true → (k : ℕ) → has_node to (above k net from) ≡ false)
          → has_node to (above m net from) ≡ false
      by true e p rest = absurd (true≢false (sym p))
      by false e p rest = inner (nat_eq from x.0) refl p
        where
          here : (k : ℕ) → has_node to (above k net x.0) ≡ false
          here k = clear_node front clear x s.0 s.1 s.2 e k

          more : (y : NodeId) (k : ℕ) → Has (front ++ x ∷ []) y → has_node to (above k net y.0) ≡ false
          more y k h = elim (has_last front x y h) [ inl l ↦ clear y k l | inr q ↦ subst (λ (z : NodeId). has_node to (above k net z.0) ≡ false) (sym q) (here k) ]

          inner : (c : Bool) → nat_eq from x.0 ≡ c → cond c true (comes_first from to xs) ≡ true → has_node to (above m net from) ≡ false
          inner true q r = subst (λ i. has_node to (above m net i) ≡ false) (sym (eqb-true from x.0 q)) (here m)
          inner false q r = rest more s.3 r m

  pub no_cycle : (from : ℕ) (order : List NodeId) → IsOrder net order → comes_first from to order ≡ true → has_node to (cone_of net from) ≡ false
  no_cycle from order o h = clear_first from [] order (λ y m k. absurd k) o.stands h 256

-- one more connection, from a node that stands in the list
inputs_set : (list : List NodeId) (i : ℕ) (from : NodeId) → Has list from → (inputs : List (Option NodeId)) → AllByRecursion (IsFedFrom list) inputs → AllByRecursion (IsFedFrom list) (slice_set inputs i (Some from))
inputs_set list i from h [] g = tt
inputs_set list zero from h (o ∷ inputs) g = (h, g.1)
inputs_set list (suc i) from h (o ∷ inputs) g = (g.0, inputs_set list i from h inputs g.1)

module _ (net : Network) (name : List ℕ) (b : Node) (found : named net name ≡ Some b) (from : NodeId) (at port : ℕ) where
  after_change : (x : NodeId) (m : Node) → node_of net x.0 ≡ Some m
      → (node_of (change (connected at port (Some from)) net name) x.0 ≡ Some m) ⊎ ((x.0 ≡ b.id.0) × (node_of (change (connected at port (Some from)) net name) x.0 ≡ Some (connected at port (Some from) m)))
  after_change x m h = change_node (connected at port (Some from)) (λ n. refl) net name b found x.0 m h

  -- behind the source
  behind_stands : (front xs : List NodeId) → Has front from → Stands net front xs → Stands (change (connected at port (Some from)) net name) front xs
  behind_stands front [] h s = tt
  behind_stands front (x ∷ xs) h s = by (after_change x s.0 s.1) (behind_stands (front ++ x ∷ []) xs (Has-left front (x ∷ []) from h) s.3)
    where
      by : (node_of (change (connected at port (Some from)) net name) x.0 ≡ Some s.0) ⊎ ((x.0 ≡ b.id.0) × (node_of (change (connected at port (Some from)) net name) x.0 ≡ Some (connected at port (Some from) s.0)))
          → Stands (change (connected at port (Some from)) net name) (front ++ x ∷ []) xs → Stands (change (connected at port (Some from)) net name) front (x ∷ xs)
      by (inl same) rest = (s.0, same, s.2, rest)
      by (inr hit) rest = (connected at port (Some from) s.0, hit.1, inputs_set front (port - 1) from h s.0.inputs s.2, rest)

  -- in front of the end
  pub first_stands : (front xs : List NodeId) → Stands net front xs → comes_first from.0 b.id.0 xs ≡ true → Stands (change (connected at port (Some from)) net name) front xs
  first_stands front [] s h = tt
  first_stands front (x ∷ xs) s h = by (nat_eq b.id.0 x.0) refl h (first_stands (front ++ x ∷ []) xs s.3)
    where
      by : (t : Bool) → nat_eq b.id.0 x.0 ≡ t → cond t false (cond (nat_eq from.0 x.0) true (comes_first from.0 b.id.0 xs)) ≡ true
          → (comes_first from.0 b.id.0 xs ≡ true → Stands (change (connected at port (Some from)) net name) (front ++ x ∷ []) xs) → Stands (change (connected at port (Some from)) net name) front (x ∷ xs)
      by true e p rest = absurd (true≢false (sym p))
      by false e p rest = unchanged (after_change x s.0 s.1)
        where
          inner : (c : Bool) → nat_eq from.0 x.0 ≡ c → cond c true (comes_first from.0 b.id.0 xs) ≡ true → Stands (change (connected at port (Some from)) net name) (front ++ x ∷ []) xs
          inner true q r = behind_stands (front ++ x ∷ []) xs (Has-right front (x ∷ []) from (inl (same_node_id from x (eqb-true from.0 x.0 q)))) s.3
          inner false q r = rest r

          unchanged : (node_of (change (connected at port (Some from)) net name) x.0 ≡ Some s.0) ⊎ ((x.0 ≡ b.id.0) × (node_of (change (connected at port (Some from)) net name) x.0 ≡ Some (connected at port (Some from) s.0)))
              → Stands (change (connected at port (Some from)) net name) front (x ∷ xs)
          unchanged (inl same) = (s.0, same, s.2, inner (nat_eq from.0 x.0) refl p)
          unchanged (inr hit) = absurd (true≢false (sym (eq-eqb b.id.0 x.0 (sym hit.0)) ∙ e))
