-- An order of all nodes is one still with those that lie downstream of one behind all others.
use Rattle.std.proofs.Common.{◌≡◌, ℕ, suc, Bool, true, false, not, cond, filter, nat_eq, ◌⊎◌, inl, inr, true≢false, List, [], ◌∷◌, ◌++◌, length, length-append, take, slice_get, Some, IsSome, refl, sym, ap, subst, ◌∙◌, arith}
use Rattle.std.proofs.lemmas.Bool.{eqb-true, eq-eqb}
use Rattle.std.proofs.lemmas.Grind.{common_steps}
use Rattle.std.proofs.lemmas.List.Filters.{length-filter_both}
use Rattle.std.specs.Option.{option_map}
use Rattle.viz_base.specs.declared.node.NodeId.{NodeId}
use Rattle.viz_network.specs.declared.node.Node.{Node}
use Rattle.viz_network.specs.Network.{Network, node_of}
use Rattle.viz_network.specs.Cone.{Tree, grow, above, either, has_node}
use Rattle.viz_network.specs.Steps.Order.{Has, IsOrder, IsTale, parted, is_late, comes_first}
use Rattle.viz_network.specs.Steps.Marks.{IsTold, is_marked}
use Rattle.viz_network.proofs.StandsLemmas.{Has-left, Has-right, Has-filter}
use Rattle.viz_network.proofs.BehindLemmas.{parted_stands}
use Rattle.viz_network.proofs.ConnectLemmas.{same_node_id}
use Rattle.viz_network.proofs.TaleLemmas.{node_id, holds}
use Rattle.viz_network.proofs.OrderLemmas.{tale_of, has_place, places_of, whole_told, is_some_of, some_of}

filter_same : (p q : NodeId → Bool) (xs : List NodeId) → ((k : ℕ) (x : NodeId) → slice_get xs k ≡ Some x → p x ≡ q x) → filter p xs ≡ filter q xs
filter_same p q [] h = refl
filter_same p q (x ∷ xs) h =
    ap (λ b. cond b (x ∷ filter p xs) (filter p xs)) (h 0 x refl) ∙ ap (λ l. cond (q x) (x ∷ l) l) (filter_same p q xs (λ k y at. h (suc k) y at))

parted_same : (p q : NodeId → Bool) (xs : List NodeId) → ((k : ℕ) (x : NodeId) → slice_get xs k ≡ Some x → p x ≡ q x) → parted p xs ≡ parted q xs
parted_same p q xs h =
    ap (λ l. l ++ filter p xs) (filter_same (λ x. not (p x)) (λ x. not (q x)) xs (λ k x at. ap not (h k x at)))
    ∙ ap (λ l. filter (λ x. not (q x)) xs ++ l) (filter_same p q xs h)

pub parted_long : (p : NodeId → Bool) (xs : List NodeId) → length (parted p xs) ≡ length xs
parted_long p xs = omega (arith, length-append (filter (λ x. not (p x)) xs) (filter p xs), length-filter_both p (λ x. not (p x)) (λ x. refl) xs)

has_parted : (p : NodeId → Bool) (xs : List NodeId) (x : NodeId) → Has xs x → Has (parted p xs) x
has_parted p xs x h = by (p x) refl
  where
    by : (b : Bool) → p x ≡ b → Has (filter (λ y. not (p y)) xs ++ filter p xs) x
    by true e = Has-right (filter (λ y. not (p y)) xs) (filter p xs) x (Has-filter p xs x e h)
    by false e = Has-left (filter (λ y. not (p y)) xs) (filter p xs) x (Has-filter (λ y. not (p y)) xs x (ap not e) h)

-- a node without a mark stands in front of one with a mark
early_first : (late : NodeId → Bool) (a b : NodeId) (back : List NodeId) → late a ≡ false → late b ≡ true → (xs : List NodeId) → Has xs a → comes_first a.0 b.0 (filter (λ x. not (late x)) xs ++ back) ≡ true
early_first late a b back f l [] h = absurd h
early_first late a b back f l (x ∷ xs) h = by (late x) refl h (early_first late a b back f l xs)
  where
    by : (c : Bool) → late x ≡ c → (a ≡ x) ⊎ Has xs a → (Has xs a → comes_first a.0 b.0 (filter (λ y. not (late y)) xs ++ back) ≡ true)
        → comes_first a.0 b.0 (cond (not c) (x ∷ filter (λ y. not (late y)) xs) (filter (λ y. not (late y)) xs) ++ back) ≡ true
    by true e (inl q) rest = absurd (true≢false (sym e ∙ ap late (sym q) ∙ f))
    by true e (inr k) rest = rest k
    by false e k rest = other (nat_eq b.0 x.0) refl k
      where
        other : (d : Bool) → nat_eq b.0 x.0 ≡ d → (a ≡ x) ⊎ Has xs a → cond d false (cond (nat_eq a.0 x.0) true (comes_first a.0 b.0 (filter (λ y. not (late y)) xs ++ back))) ≡ true
        other true q k = absurd (true≢false (sym l ∙ ap late (same_node_id b x (eqb-true b.0 x.0 q)) ∙ e))
        other false q (inl r) = ap (λ d. cond d true (comes_first a.0 b.0 (filter (λ y. not (late y)) xs ++ back))) (eq-eqb a.0 x.0 (ap (λ (z : NodeId). z.0) r))
        other false q (inr k) = pick (nat_eq a.0 x.0)
          where
            pick : (d : Bool) → cond d true (comes_first a.0 b.0 (filter (λ y. not (late y)) xs ++ back)) ≡ true
            pick true = refl
            pick false = rest k

-- a node is in its own cone
own_late : (net : Network) (x : NodeId) → IsSome (node_of net x.0) → is_late net x.0 x ≡ true
own_late net x h =
    let n = some_of (node_of net x.0) h in
    let tree : Node → Tree = λ v. (v, grow (above 255 net) v.inputs) in
    ap (λ o. has_node x.0 (option_map tree o)) n.1 ∙ ap (λ b. either b (holds x.0 (grow (above 255 net) n.0.inputs))) (eq-eqb x.0 n.0.id.0 (sym (node_id net x.0 n.0 n.1)))

module _ (net : Network) (order : List NodeId) (o : IsOrder net order) (to : NodeId) (marks : List Bool) (known : IsTold either false (λ (n : Node). nat_eq to.0 n.id.0) net order (length order) marks) where
  -- the marks are of what lies downstream
  pub marked_late : (x : NodeId) → IsSome (node_of net x.0) → is_marked net marks x ≡ is_late net to.0 x
  marked_late x h = whole_told either false (λ (n : Node). nat_eq to.0 n.id.0) net order o marks known x.0 h

  pub order_parted : IsOrder net (parted (is_marked net marks) order)
  order_parted = subst (IsOrder net) (sym same) (record {
    stands = parted_stands net order t (λ x m h. has_place order x (places_of net order o x m h)) to.0 o.stands;
    covers = λ x n h. has_parted (is_late net to.0) order n.id (o.covers x n h);
    ascending = o.ascending;
    short = omega (arith, o.short, parted_long (is_late net to.0) order);
    few = o.few;
  })
    where
      t : IsTale net order
      t = tale_of net order o

      same : parted (is_marked net marks) order ≡ parted (is_late net to.0) order
      same = parted_same (is_marked net marks) (is_late net to.0) order (λ k x place. marked_late x (let n = t.each k x place in is_some_of (node_of net x.0) n.0 n.1))

  pub parted_first : (a : NodeId) → IsSome (node_of net a.0) → IsSome (node_of net to.0) → is_marked net marks a ≡ false → comes_first a.0 to.0 (parted (is_marked net marks) order) ≡ true
  parted_first a h there free =
      let n = some_of (node_of net a.0) h in
      early_first (is_marked net marks) a to (filter (is_marked net marks) order) free (marked_late to there ∙ own_late net to there) order (places_of net order o a n.0 n.1)

-- a whole list that is written over another of its length
pub written : {A : Type 0} (n : ℕ) (xs more : List A) → length xs ≡ n → take n (xs ++ more) ≡ xs
written n xs more e = ap (λ k. take k (xs ++ more)) (sym e) ∙ grind (arith, common_steps)
