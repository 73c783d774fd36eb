-- Each edit keeps an order of all nodes.
use Rattle.std.proofs.Common.{◌≡◌, ℕ, zero, suc, ◌<◌, Bool, true, false, cond, nat_eq, ◌⊎◌, inl, inr, List, [], ◌∷◌, ◌++◌, slice_set, length, length-append, Option, None, Some, refl, sym, ap, subst, ◌∙◌, arith}
use Rattle.std.proofs.lemmas.Bool.{eqb-true, eq-eqb}
use Rattle.std.specs.List.{AllByRecursion}
use Rattle.std.specs.Cmp.Lexicographic.{pointwise}
use Rattle.viz_base.specs.declared.node.NodeId.{NodeId}
use Rattle.viz_network.specs.declared.node.Node.{Node}
use Rattle.viz_kinds.specs.declared.kind.Kind.{Kind}
use Rattle.viz_network.specs.Network.{Network, named, node_of, change}
use Rattle.viz_network.specs.Applies.{IsPast}
use Rattle.viz_network.specs.Edits.{fresh, connected}
use Rattle.viz_network.specs.EqualStamps.{IsAscending}
use Rattle.viz_network.specs.Steps.Order.{Has, IsFedFrom, Stands, IsOrder, comes_first}
use Rattle.viz_network.proofs.StandsLemmas.{Has-left, Has-right, Stands-append}
use Rattle.viz_network.proofs.ConnectLemmas.{change_node, first_stands}

pub all_push : {A : Type 0} (P : A → Type 0) (xs : List A) (e : A) → AllByRecursion P xs → P e → AllByRecursion P (xs ++ e ∷ [])
all_push P [] e h p = (p, tt)
all_push P (x ∷ xs) e h p = (h.0, all_push P xs e h.1 p)

-- a node that stands stays where it stood, if what feeds it does
pub stands_map : (old new : Network) → ((x : NodeId) (m : Node) → node_of old x.0 ≡ Some m
    → (n : Node) × (node_of new x.0 ≡ Some n) × ((front : List NodeId) → AllByRecursion (IsFedFrom front) m.inputs → AllByRecursion (IsFedFrom front) n.inputs))
    → (front xs : List NodeId) → Stands old front xs → Stands new front xs
stands_map old new h front [] s = tt
stands_map old new h front (x ∷ xs) s =
    let n = h x s.0 s.1 in
    (n.0, n.1, n.2 front s.2, stands_map old new h (front ++ x ∷ []) xs s.3)

-- one node more

pub node_front : (net : Network) (e : List ℕ × Node) (x : ℕ) (n : Node) → node_of net x ≡ Some n → node_of (net ++ e ∷ []) x ≡ Some n
node_front [] e x n h = let bad : ⊥ = cc in absurd bad
node_front (d ∷ net) e x n h = by (nat_eq x d.1.id.0) h (node_front net e x n)
  where
    by : (b : Bool) → cond b (Some d.1) (node_of net x) ≡ Some n → (node_of net x ≡ Some n → node_of (net ++ e ∷ []) x ≡ Some n) → cond b (Some d.1) (node_of (net ++ e ∷ []) x) ≡ Some n
    by true p rest = p
    by false p rest = rest p

pub node_back : (net : Network) (e : List ℕ × Node) (x : ℕ) (n : Node) → node_of (net ++ e ∷ []) x ≡ Some n → (node_of net x ≡ Some n) ⊎ (e.1 ≡ n)
node_back [] e x n h = by (nat_eq x e.1.id.0) h
  where
    by : (b : Bool) → cond b (Some e.1) None ≡ Some n → (None ≡ Some n) ⊎ (e.1 ≡ n)
    by true p = inr cc
    by false p = inl p
node_back (d ∷ net) e x n h = by (nat_eq x d.1.id.0) h (node_back net e x n)
  where
    by : (b : Bool) → cond b (Some d.1) (node_of (net ++ e ∷ []) x) ≡ Some n → (node_of (net ++ e ∷ []) x ≡ Some n → (node_of net x ≡ Some n) ⊎ (e.1 ≡ n)) → (cond b (Some d.1) (node_of net x) ≡ Some n) ⊎ (e.1 ≡ n)
    by true p rest = inl p
    by false p rest = rest p

pub past_none : (at : ℕ) (net : Network) → IsPast at net → node_of net at ≡ None
past_none at [] h = refl
past_none at (d ∷ net) h = by (nat_eq at d.1.id.0) refl (past_none at net h.1)
  where
    by : (b : Bool) → nat_eq at d.1.id.0 ≡ b → node_of net at ≡ None → cond b (Some d.1) (node_of net at) ≡ None
    by true t rest = absurd (omega (arith, eqb-true at d.1.id.0 t, h.0.0))
    by false t rest = rest

node_last : (net : Network) (e : List ℕ × Node) → node_of net e.1.id.0 ≡ None → node_of (net ++ e ∷ []) e.1.id.0 ≡ Some e.1
node_last [] e h = ap (λ b. cond b (Some e.1) None) (eq-eqb e.1.id.0 e.1.id.0 refl)
node_last (d ∷ net) e h = by (nat_eq e.1.id.0 d.1.id.0) h (node_last net e)
  where
    by : (b : Bool) → cond b (Some d.1) (node_of net e.1.id.0) ≡ None → (node_of net e.1.id.0 ≡ None → node_of (net ++ e ∷ []) e.1.id.0 ≡ Some e.1)
        → cond b (Some d.1) (node_of (net ++ e ∷ []) e.1.id.0) ≡ Some e.1
    by true p rest = let bad : ⊥ = cc in absurd bad
    by false p rest = rest p

pub ascending_push : (net : Network) (e : List ℕ × Node) → IsAscending net → IsPast e.1.id.0 net → IsAscending (net ++ e ∷ [])
ascending_push [] e up past = (tt, tt)
ascending_push (d ∷ net) e up past = (all_push (λ (m : List ℕ × Node). d.1.id.0 < m.1.id.0) net e up.0 past.0.0, ascending_push net e up.1 past.1)

pub order_add : (net : Network) (order : List NodeId) (at : ℕ) (name : List ℕ) (kind : Kind) → IsOrder net order → IsPast at net → length net < 256
    → IsOrder (net ++ (name, fresh at kind) ∷ []) (order ++ record { 0 = at } ∷ [])
order_add net order at name kind o past room = record {
  stands = Stands-append new [] order (record { 0 = at } ∷ []) (stands_map net new (λ x m h. (m, node_front net e x.0 m h, λ front fed. fed)) [] order o.stands)
      (fresh at kind, node_last net e (past_none at net past), (tt, (tt, (tt, (tt, (tt, (tt, (tt, (tt, tt)))))))), tt);
  covers = λ x n h. elim (node_back net e x n h) [
    | inl was ↦ Has-left order (record { 0 = at } ∷ []) n.id (o.covers x n was)
    | inr last ↦ Has-right order (record { 0 = at } ∷ []) n.id (inl (ap (λ (m : Node). m.id) (sym last)))
  ];
  ascending = ascending_push net e o.ascending past;
  short = omega (arith, o.short, length-append order (record { 0 = at } ∷ []), length-append net (e ∷ []));
  few = omega (arith, room, length-append net (e ∷ []));
}
  where
    e : List ℕ × Node
    e = (name, fresh at kind)

    new : Network
    new = net ++ e ∷ []

-- a change of one node

module _ (f : Node → Node) (keeps : (n : Node) → (f n).id ≡ n.id) where
  pub change_long : (net : Network) (name : List ℕ) → length (change f net name) ≡ length net
  change_long [] name = refl
  change_long (e ∷ net) name = by (pointwise nat_eq name e.0) (change_long net name)
    where
      by : (b : Bool) → length (change f net name) ≡ length net → length (cond b ((e.0, f e.1) ∷ net) (e ∷ change f net name)) ≡ suc (length net)
      by true r = refl
      by false r = ap suc r

  change_all : (a : ℕ) (net : Network) (name : List ℕ) → AllByRecursion (λ (m : List ℕ × Node). a < m.1.id.0) net → AllByRecursion (λ (m : List ℕ × Node). a < m.1.id.0) (change f net name)
  change_all a [] name h = tt
  change_all a (e ∷ net) name h = by (pointwise nat_eq name e.0) (change_all a net name h.1)
    where
      by : (b : Bool) → AllByRecursion (λ (m : List ℕ × Node). a < m.1.id.0) (change f net name) → AllByRecursion (λ (m : List ℕ × Node). a < m.1.id.0) (cond b ((e.0, f e.1) ∷ net) (e ∷ change f net name))
      by true r = (subst (λ (i : NodeId). a < i.0) (sym (keeps e.1)) h.0, h.1)
      by false r = (h.0, r)

  pub change_ascending : (net : Network) (name : List ℕ) → IsAscending net → IsAscending (change f net name)
  change_ascending [] name up = tt
  change_ascending (e ∷ net) name up = by (pointwise nat_eq name e.0) (change_all e.1.id.0 net name up.0) (change_ascending net name up.1)
    where
      by : (b : Bool) → AllByRecursion (λ (m : List ℕ × Node). e.1.id.0 < m.1.id.0) (change f net name) → IsAscending (change f net name) → IsAscending (cond b ((e.0, f e.1) ∷ net) (e ∷ change f net name))
      by true a r = (subst (λ (i : NodeId). AllByRecursion (λ (m : List ℕ × Node). i.0 < m.1.id.0) net) (sym (keeps e.1)) up.0, up.1)
      by false a r = (a, r)

  pub change_back : (net : Network) (name : List ℕ) (x : ℕ) (n : Node) → node_of (change f net name) x ≡ Some n → (m : Node) × (node_of net x ≡ Some m) × (m.id ≡ n.id)
  change_back [] name x n h = let bad : ⊥ = cc in absurd bad
  change_back (e ∷ net) name x n h = by (pointwise nat_eq name e.0) h (change_back net name x n)
    where
      by : (b : Bool) → node_of (cond b ((e.0, f e.1) ∷ net) (e ∷ change f net name)) x ≡ Some n → (node_of (change f net name) x ≡ Some n → (m : Node) × (node_of net x ≡ Some m) × (m.id ≡ n.id))
          → (m : Node) × (node_of (e ∷ net) x ≡ Some m) × (m.id ≡ n.id)
      by true p rest = inner (nat_eq x e.1.id.0) (subst (λ (i : NodeId). cond (nat_eq x i.0) (Some (f e.1)) (node_of net x) ≡ Some n) (keeps e.1) p)
        where
          inner : (c : Bool) → cond c (Some (f e.1)) (node_of net x) ≡ Some n → (m : Node) × (cond c (Some e.1) (node_of net x) ≡ Some m) × (m.id ≡ n.id)
          inner true q = let same : f e.1 ≡ n = cc in (e.1, refl, sym (keeps e.1) ∙ ap (λ (m : Node). m.id) same)
          inner false q = (n, q, refl)
      by false p rest = inner (nat_eq x e.1.id.0) p
        where
          inner : (c : Bool) → cond c (Some e.1) (node_of (change f net name) x) ≡ Some n → (m : Node) × (cond c (Some e.1) (node_of net x) ≡ Some m) × (m.id ≡ n.id)
          inner true q = (n, q, refl)
          inner false q = rest q

  module _ (fed : (m : Node) (front : List NodeId) → AllByRecursion (IsFedFrom front) m.inputs → AllByRecursion (IsFedFrom front) (f m).inputs) where
    pub order_change : (net : Network) (order : List NodeId) (name : List ℕ) (b : Node) → named net name ≡ Some b → IsOrder net order → IsOrder (change f net name) order
    order_change net order name b found o = record {
      stands = stands_map net (change f net name) (λ x m h. elim (change_node f keeps net name b found x.0 m h) [
        | inl same ↦ (m, same, λ front g. g)
        | inr hit ↦ (f m, hit.1, fed m)
      ]) [] order o.stands;
      covers = λ x n h. (let m = change_back net name x n h in subst (Has order) m.2 (o.covers x m.0 m.1));
      ascending = change_ascending net name o.ascending;
      short = omega (arith, o.short, change_long net name);
      few = omega (arith, o.few, change_long net name);
    }

-- a port that is emptied
pub fed_emptied : (inputs : List (Option NodeId)) (i : ℕ) (front : List NodeId) → AllByRecursion (IsFedFrom front) inputs → AllByRecursion (IsFedFrom front) (slice_set inputs i None)
fed_emptied [] i front h = tt
fed_emptied (o ∷ inputs) zero front h = (tt, h.1)
fed_emptied (o ∷ inputs) (suc i) front h = (h.0, fed_emptied inputs i front h.1)

-- a connection from a node that stands in front of its end
pub order_connect : (net : Network) (order : List NodeId) (name : List ℕ) (b : Node) (from : NodeId) (at port : ℕ) → named net name ≡ Some b → IsOrder net order
    → comes_first from.0 b.id.0 order ≡ true → IsOrder (change (connected at port (Some from)) net name) order
order_connect net order name b from at port found o h = record {
  stands = first_stands net name b found from at port [] order o.stands h;
  covers = λ x n g. (let m = change_back (connected at port (Some from)) (λ v. refl) net name x n g in subst (Has order) m.2 (o.covers x m.0 m.1));
  ascending = change_ascending (connected at port (Some from)) (λ v. refl) net name o.ascending;
  short = omega (arith, o.short, change_long (connected at port (Some from)) (λ v. refl) net name);
  few = omega (arith, o.few, change_long (connected at port (Some from)) (λ v. refl) net name);
}
