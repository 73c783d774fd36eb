-- An order of all nodes without one that feeds no other.
use Rattle.std.proofs.Common.{◌≡◌, ◌≢◌, ℕ, suc, ◌<◌, ◌≤◌, Bool, true, false, not, cond, filter, nat_eq, inl, inr, true≢false, List, [], ◌∷◌, ◌++◌, length, append-nil, Option, None, Some, refl, sym, ap, subst, ◌∙◌, arith}
use Rattle.std.proofs.lemmas.Bool.{eqb-true, eq-eqb}
use Rattle.std.specs.List.{AllByRecursion}
use Rattle.std.specs.Map.{lookup}
use Rattle.std.specs.Cmp.Lexicographic.{pointwise}
use Rattle.viz_base.specs.declared.node.NodeId.{NodeId}
use Rattle.viz_network.specs.declared.node.Node.{Node}
use Rattle.viz_network.specs.Network.{Network, named, node_of, without}
use Rattle.viz_network.specs.Edits.{is_input, is_used}
use Rattle.viz_network.specs.EqualStamps.{IsAscending}
use Rattle.viz_network.specs.Steps.Order.{Has, IsFedFrom, Stands, IsOrder}
use Rattle.viz_network.proofs.StandsLemmas.{Has-filter, filter-snoc}
use Rattle.viz_network.proofs.BehindLemmas.{or_false}
use Rattle.viz_network.proofs.TaleLemmas.{node_id}

above_named : (net : Network) (name : List ℕ) (b : Node) (a : ℕ) → AllByRecursion (λ (m : List ℕ × Node). a < m.1.id.0) net → named net name ≡ Some b → a < b.id.0
above_named [] name b a h p = let bad : ⊥ = cc in absurd bad
above_named (e ∷ net) name b a h p = by (pointwise nat_eq name e.0) p (above_named net name b a h.1)
  where
    by : (t : Bool) → cond t (Some e.1) (lookup (pointwise nat_eq name) net) ≡ Some b → (named net name ≡ Some b → a < b.id.0) → a < b.id.0
    by true q rest = let same : e.1 ≡ b = cc in subst (λ (m : Node). a < m.id.0) same h.0
    by false q rest = rest q

pub named_node : (net : Network) (name : List ℕ) (b : Node) → IsAscending net → named net name ≡ Some b → node_of net b.id.0 ≡ Some b
named_node [] name b up h = let bad : ⊥ = cc in absurd bad
named_node (e ∷ net) name b up h = by (pointwise nat_eq name e.0) h (named_node net name b up.1) (above_named net name b e.1.id.0 up.0)
  where
    by : (t : Bool) → cond t (Some e.1) (lookup (pointwise nat_eq name) net) ≡ Some b → (named net name ≡ Some b → node_of net b.id.0 ≡ Some b) → (named net name ≡ Some b → e.1.id.0 < b.id.0)
        → cond (nat_eq b.id.0 e.1.id.0) (Some e.1) (node_of net b.id.0) ≡ Some b
    by true p rest above = let same : e.1 ≡ b = cc in ap (λ t. cond t (Some e.1) (node_of net b.id.0)) (eq-eqb b.id.0 e.1.id.0 (ap (λ (m : Node). m.id.0) (sym same))) ∙ ap Some same
    by false p rest above = inner (nat_eq b.id.0 e.1.id.0) refl
      where
        inner : (c : Bool) → nat_eq b.id.0 e.1.id.0 ≡ c → cond c (Some e.1) (node_of net b.id.0) ≡ Some b
        inner true t = absurd (omega (arith, eqb-true b.id.0 e.1.id.0 t, above p))
        inner false t = rest p

without_long : (net : Network) (name : List ℕ) (b : Node) → named net name ≡ Some b → suc (length (without net name)) ≡ length net
without_long [] name b h = let bad : ⊥ = cc in absurd bad
without_long (e ∷ net) name b h = by (pointwise nat_eq name e.0) h (without_long net name b)
  where
    by : (t : Bool) → cond t (Some e.1) (lookup (pointwise nat_eq name) net) ≡ Some b → (named net name ≡ Some b → suc (length (without net name)) ≡ length net)
        → suc (length (cond t net (e ∷ without net name))) ≡ suc (length net)
    by true p rest = refl
    by false p rest = ap suc (rest p)

pub without_all : (P : (List ℕ × Node) → Type 0) (net : Network) (name : List ℕ) → AllByRecursion P net → AllByRecursion P (without net name)
without_all P [] name h = tt
without_all P (e ∷ net) name h = by (pointwise nat_eq name e.0) (without_all P net name h.1)
  where
    by : (t : Bool) → AllByRecursion P (without net name) → AllByRecursion P (cond t net (e ∷ without net name))
    by true r = h.1
    by false r = (h.0, r)

pub without_ascending : (net : Network) (name : List ℕ) → IsAscending net → IsAscending (without net name)
without_ascending [] name up = tt
without_ascending (e ∷ net) name up = by (pointwise nat_eq name e.0) (without_all (λ (m : List ℕ × Node). e.1.id.0 < m.1.id.0) net name up.0) (without_ascending net name up.1)
  where
    by : (t : Bool) → AllByRecursion (λ (m : List ℕ × Node). e.1.id.0 < m.1.id.0) (without net name) → IsAscending (without net name) → IsAscending (cond t net (e ∷ without net name))
    by true a r = up.1
    by false a r = (a, r)

-- another node stays
pub without_other : (net : Network) (name : List ℕ) (b : Node) → named net name ≡ Some b → (x : ℕ) (m : Node) → node_of net x ≡ Some m → nat_eq b.id.0 x ≡ false → node_of (without net name) x ≡ Some m
without_other [] name b h x m at d = let bad : ⊥ = cc in absurd bad
without_other (e ∷ net) name b h x m at d = by (pointwise nat_eq name e.0) h (without_other net name b)
  where
    by : (t : Bool) → cond t (Some e.1) (lookup (pointwise nat_eq name) net) ≡ Some b
        → (named net name ≡ Some b → (y : ℕ) (v : Node) → node_of net y ≡ Some v → nat_eq b.id.0 y ≡ false → node_of (without net name) y ≡ Some v)
        → node_of (cond t net (e ∷ without net name)) x ≡ Some m
    by true p rest = inner (nat_eq x e.1.id.0) refl at
      where
        inner : (c : Bool) → nat_eq x e.1.id.0 ≡ c → cond c (Some e.1) (node_of net x) ≡ Some m → node_of net x ≡ Some m
        inner false t q = q
        inner true t q =
            let same : e.1 ≡ b = cc in
            absurd (true≢false (sym (eq-eqb b.id.0 x (ap (λ (v : Node). v.id.0) (sym same) ∙ sym (eqb-true x e.1.id.0 t))) ∙ d))
    by false p rest = inner (nat_eq x e.1.id.0) at
      where
        inner : (c : Bool) → cond c (Some e.1) (node_of net x) ≡ Some m → cond c (Some e.1) (node_of (without net name) x) ≡ Some m
        inner true q = q
        inner false q = rest p x m q d

above_found : (net : Network) (a x : ℕ) (m : Node) → AllByRecursion (λ (n : List ℕ × Node). a < n.1.id.0) net → node_of net x ≡ Some m → a < x
above_found [] a x m h at = let bad : ⊥ = cc in absurd bad
above_found (e ∷ net) a x m h at = by (nat_eq x e.1.id.0) refl at (above_found net a x m h.1)
  where
    by : (c : Bool) → nat_eq x e.1.id.0 ≡ c → cond c (Some e.1) (node_of net x) ≡ Some m → (node_of net x ≡ Some m → a < x) → a < x
    by true t q rest = omega (arith, eqb-true x e.1.id.0 t, h.0)
    by false t q rest = rest q

-- a node that is left was there, and is another one
pub without_back : (net : Network) (name : List ℕ) (b : Node) → IsAscending net → named net name ≡ Some b → (x : ℕ) (m : Node) → node_of (without net name) x ≡ Some m
    → (node_of net x ≡ Some m) × (b.id.0 ≢ x)
without_back [] name b up h x m at = let bad : ⊥ = cc in absurd bad
without_back (e ∷ net) name b up h x m at = by (pointwise nat_eq name e.0) h at (without_back net name b up.1) (above_named net name b e.1.id.0 up.0)
  where
    by : (t : Bool) → cond t (Some e.1) (lookup (pointwise nat_eq name) net) ≡ Some b → node_of (cond t net (e ∷ without net name)) x ≡ Some m
        → (named net name ≡ Some b → (y : ℕ) (v : Node) → node_of (without net name) y ≡ Some v → (node_of net y ≡ Some v) × (b.id.0 ≢ y))
        → (named net name ≡ Some b → e.1.id.0 < b.id.0)
        → (cond (nat_eq x e.1.id.0) (Some e.1) (node_of net x) ≡ Some m) × (b.id.0 ≢ x)
    by true p q rest above =
        let same : e.1 ≡ b = cc in
        let less : e.1.id.0 < x = above_found net e.1.id.0 x m up.0 q in
        (inner (nat_eq x e.1.id.0) refl less, λ one. absurd (omega (arith, less, one, ap (λ (v : Node). v.id.0) same)))
      where
        inner : (c : Bool) → nat_eq x e.1.id.0 ≡ c → e.1.id.0 < x → cond c (Some e.1) (node_of net x) ≡ Some m
        inner true t l = absurd (omega (arith, l, eqb-true x e.1.id.0 t))
        inner false t l = q
    by false p q rest above = inner (nat_eq x e.1.id.0) refl q
      where
        inner : (c : Bool) → nat_eq x e.1.id.0 ≡ c → cond c (Some e.1) (node_of (without net name) x) ≡ Some m → (cond c (Some e.1) (node_of net x) ≡ Some m) × (b.id.0 ≢ x)
        inner true t r = (r, λ one. absurd (omega (arith, one, above p, eqb-true x e.1.id.0 t)))
        inner false t r = rest p x m r

pub unused : (id : ℕ) (net : Network) (x : ℕ) (n : Node) → is_used id net ≡ false → node_of net x ≡ Some n → is_input id n.inputs ≡ false
unused id [] x n u h = let bad : ⊥ = cc in absurd bad
unused id (e ∷ net) x n u h =
    let both = or_false (is_input id e.1.inputs) (is_used id net) u in
    by (nat_eq x e.1.id.0) h both.0 (unused id net x n both.1)
  where
    by : (c : Bool) → cond c (Some e.1) (node_of net x) ≡ Some n → is_input id e.1.inputs ≡ false → (node_of net x ≡ Some n → is_input id n.inputs ≡ false) → is_input id n.inputs ≡ false
    by true q f rest = let same : e.1 ≡ n = cc in subst (λ (m : Node). is_input id m.inputs ≡ false) same f
    by false q f rest = rest q

-- what feeds the ports is still in a list without a node that feeds none of them
fed_without : (id : ℕ) (front : List NodeId) (inputs : List (Option NodeId)) → is_input id inputs ≡ false → AllByRecursion (IsFedFrom front) inputs
    → AllByRecursion (IsFedFrom (filter (λ (y : NodeId). not (nat_eq id y.0)) front)) inputs
fed_without id front [] u h = tt
fed_without id front (None ∷ inputs) u h = (tt, fed_without id front inputs u h.1)
fed_without id front (Some from ∷ inputs) u h =
    let both = or_false (nat_eq id from.0) (is_input id inputs) u in
    (Has-filter (λ (y : NodeId). not (nat_eq id y.0)) front from (ap not both.0) h.0, fed_without id front inputs both.1 h.1)

filter_no_longer : (id : ℕ) (xs : List NodeId) → length (filter (λ (y : NodeId). not (nat_eq id y.0)) xs) ≤ length xs
filter_no_longer id [] = omega arith
filter_no_longer id (y ∷ xs) = by (nat_eq id y.0) (filter_no_longer id xs)
  where
    by : (b : Bool) → length (filter (λ (z : NodeId). not (nat_eq id z.0)) xs) ≤ length xs
        → length (cond (not b) (y ∷ filter (λ (z : NodeId). not (nat_eq id z.0)) xs) (filter (λ (z : NodeId). not (nat_eq id z.0)) xs)) ≤ suc (length xs)
    by true r = omega (arith, r)
    by false r = omega (arith, r)

filter_shorter : (id : ℕ) (xs : List NodeId) (x : NodeId) → nat_eq id x.0 ≡ true → Has xs x → length (filter (λ (y : NodeId). not (nat_eq id y.0)) xs) < length xs
filter_shorter id [] x t h = absurd h
filter_shorter id (y ∷ xs) x t (inl e) =
    let here : nat_eq id y.0 ≡ true = ap (λ (z : NodeId). nat_eq id z.0) (sym e) ∙ t in
    subst (λ b. length (cond (not b) (y ∷ filter (λ (z : NodeId). not (nat_eq id z.0)) xs) (filter (λ (z : NodeId). not (nat_eq id z.0)) xs)) < suc (length xs)) (sym here)
    (omega (arith, filter_no_longer id xs))
filter_shorter id (y ∷ xs) x t (inr h) = by (nat_eq id y.0) (filter_shorter id xs x t h)
  where
    by : (b : Bool) → length (filter (λ (z : NodeId). not (nat_eq id z.0)) xs) < length xs
        → length (cond (not b) (y ∷ filter (λ (z : NodeId). not (nat_eq id z.0)) xs) (filter (λ (z : NodeId). not (nat_eq id z.0)) xs)) < suc (length xs)
    by true r = omega (arith, r)
    by false r = omega (arith, r)

module _ (net : Network) (name : List ℕ) (b : Node) (found : named net name ≡ Some b) (up : IsAscending net) (u : is_used b.id.0 net ≡ false) where
  stands_without : (front xs : List NodeId) → Stands net front xs → Stands (without net name) (filter (λ (y : NodeId). not (nat_eq b.id.0 y.0)) front) (filter (λ (y : NodeId). not (nat_eq b.id.0 y.0)) xs)
  stands_without front [] s = tt
  stands_without front (x ∷ xs) s = by (nat_eq b.id.0 x.0) refl (stands_without (front ++ x ∷ []) xs s.3)
    where
      by : (c : Bool) → nat_eq b.id.0 x.0 ≡ c → Stands (without net name) (filter (λ (y : NodeId). not (nat_eq b.id.0 y.0)) (front ++ x ∷ [])) (filter (λ (y : NodeId). not (nat_eq b.id.0 y.0)) xs)
          → Stands (without net name) (filter (λ (y : NodeId). not (nat_eq b.id.0 y.0)) front) (cond (not c) (x ∷ filter (λ (y : NodeId). not (nat_eq b.id.0 y.0)) xs) (filter (λ (y : NodeId). not (nat_eq b.id.0 y.0)) xs))
      by true e r = subst (λ f. Stands (without net name) f (filter (λ (y : NodeId). not (nat_eq b.id.0 y.0)) xs))
          (filter-snoc (λ (y : NodeId). not (nat_eq b.id.0 y.0)) front x ∙ ap (λ c. filter (λ (y : NodeId). not (nat_eq b.id.0 y.0)) front ++ cond (not c) (x ∷ []) []) e ∙ append-nil (filter (λ (y : NodeId). not (nat_eq b.id.0 y.0)) front)) r
      by false e r = (
        s.0,
        without_other net name b found x.0 s.0 s.1 e,
        fed_without b.id.0 front s.0.inputs (unused b.id.0 net x.0 s.0 u s.1) s.2,
        subst (λ f. Stands (without net name) f (filter (λ (y : NodeId). not (nat_eq b.id.0 y.0)) xs))
            (filter-snoc (λ (y : NodeId). not (nat_eq b.id.0 y.0)) front x ∙ ap (λ c. filter (λ (y : NodeId). not (nat_eq b.id.0 y.0)) front ++ cond (not c) (x ∷ []) []) e) r,
      )

  pub order_remove : (order : List NodeId) → IsOrder net order → IsOrder (without net name) (filter (λ (y : NodeId). not (nat_eq b.id.0 y.0)) order)
  order_remove order o = record {
    stands = stands_without [] order o.stands;
    covers = λ x n h. (
        let back = without_back net name b up found x n h in
        let same : n.id.0 ≡ x = node_id net x n back.0 in
        Has-filter (λ (y : NodeId). not (nat_eq b.id.0 y.0)) order n.id (ap not (differs (nat_eq b.id.0 n.id.0) refl (λ (e : b.id.0 ≡ n.id.0). back.1 (e ∙ same)))) (o.covers x n back.0));
    ascending = without_ascending net name up;
    short = omega (arith, o.short, without_long net name b found, filter_shorter b.id.0 order b.id (eq-eqb b.id.0 b.id.0 refl) (o.covers b.id.0 b (named_node net name b up found)));
    few = omega (arith, o.few, without_long net name b found);
  }
    where
      differs : {x y : ℕ} (c : Bool) → nat_eq x y ≡ c → (x ≢ y) → nat_eq x y ≡ false
      differs {x} {y} true t d = absurd (d (eqb-true x y t))
      differs false t d = t
