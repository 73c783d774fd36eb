-- The rank of a node is where a binary search finds its position.
use Rattle.std.proofs.Common.{◌≡◌, ◌≢◌, ℕ, zero, suc, ◌<◌, ◌≤◌, Bool, true, false, cond, nat_eq, nat_lt, List, [], ◌∷◌, length, get_or, slice_get, Option, None, Some, Result, Ok, Err, refl, sym, ap, subst, ◌∙◌, arith}
use Rattle.std.specs.List.{AllByRecursion}
use Rattle.std.specs.Option.{option_map}
use Rattle.std.specs.Map.{values_of}
use Rattle.std.specs.Result.{result_ok}
use Rattle.std.specs.List.Sorted.{IsSearchInRange, IsBinarySearchResult, IsNonDecreasingBy, IsPartitionPoint}
use Rattle.std.specs.Ordering.{nat_cmp, ordering_index}
use Rattle.std.specs.declared.cmp.Ordering.TheVariants.{Less, Greater}
use Rattle.std.proofs.lemmas.Cmp.{ranked}
use Rattle.std.proofs.lemmas.Bool.{eqb-true, eq-eqb}
use Rattle.std.proofs.lemmas.Bool.Decides.{nat_tests}
use Rattle.std.proofs.lemmas.Option.{slice_get_within, slice_get-get_or, get_or_from_slice_get}
use Rattle.viz_network.specs.declared.node.Node.{Node}
use Rattle.viz_network.specs.Network.{Network, node_of, name_of}
use Rattle.viz_network.specs.EqualStamps.{IsAscending}
use Rattle.viz_network.specs.Steps.Order.{rank_of}

Entry : Type 0
Entry = List ℕ × Node

-- what holds of all holds of each
all_at : (P : (List ℕ × Node) → Type 0) (net : Network) → AllByRecursion P net → (i : ℕ) (e : List ℕ × Node) → slice_get net i ≡ Some e → P e
all_at P [] h i e at = let bad : ⊥ = cc in absurd bad
all_at P (n ∷ net) h zero e at = let same : n ≡ e = cc in subst P same h.0
all_at P (n ∷ net) h (suc i) e at = all_at P net h.1 i e at

pub ascends : (net : Network) → IsAscending net → (i j : ℕ) (a b : List ℕ × Node) → i < j → slice_get net i ≡ Some a → slice_get net j ≡ Some b → a.1.id.0 < b.1.id.0
ascends [] up i j a b l at to = let bad : ⊥ = cc in absurd bad
ascends (n ∷ net) up i zero a b l at to = absurd (omega (arith, l))
ascends (n ∷ net) up zero (suc j) a b l at to =
    let same : n ≡ a = cc in
    let above : n.1.id.0 < b.1.id.0 = all_at (λ m. n.1.id.0 < m.1.id.0) net up.0 j b to in
    subst (λ m. m.1.id.0 < b.1.id.0) same above
ascends (n ∷ net) up (suc i) (suc j) a b l at to = ascends net up.1 i j a b (omega (arith, l)) at to

-- a node's rank is its index
pub rank_at : (net : Network) → IsAscending net → (i id : ℕ) (e : List ℕ × Node) → slice_get net i ≡ Some e → e.1.id.0 ≡ id → rank_of net id ≡ Some i
rank_at [] up i id e at same = let bad : ⊥ = cc in absurd bad
rank_at (n ∷ net) up zero id e at same =
    let here : n ≡ e = cc in
    let test : nat_eq id n.1.id.0 ≡ true = eq-eqb id n.1.id.0 (sym (ap (λ m. m.1.id.0) here ∙ same)) in
    ap (λ b. cond b (Some 0) (option_map suc (rank_of net id))) test
rank_at (n ∷ net) up (suc i) id e at same =
    let above : n.1.id.0 < e.1.id.0 = all_at (λ m. n.1.id.0 < m.1.id.0) net up.0 i e at in
    by (nat_eq id n.1.id.0) refl (rank_at net up.1 i id e at same)
  where
    by : (b : Bool) → nat_eq id n.1.id.0 ≡ b → rank_of net id ≡ Some i → cond b (Some 0) (option_map suc (rank_of net id)) ≡ Some (suc i)
    by true t r = absurd (omega (arith, eqb-true id n.1.id.0 t, same, all_at (λ m. n.1.id.0 < m.1.id.0) net up.0 i e at))
    by false t r = ap (option_map suc) r

-- the entry of a value
pub value_entry : (net : Network) (r : ℕ) (n : Node) → slice_get (values_of net) r ≡ Some n → (e : List ℕ × Node) × (slice_get net r ≡ Some e) × (e.1 ≡ n)
value_entry [] r n h = let bad : ⊥ = cc in absurd bad
value_entry (e ∷ net) zero n h = (e, refl, (let same : e.1 ≡ n = cc in same))
value_entry (e ∷ net) (suc r) n h = value_entry net r n h

-- a node's rank is the index of its value
pub rank_at_value : (net : Network) → IsAscending net → (i id : ℕ) (n : Node) → slice_get (values_of net) i ≡ Some n → n.id.0 ≡ id → rank_of net id ≡ Some i
rank_at_value net up i id n at same =
    let e = value_entry net i n at in
    rank_at net up i id e.0 e.1 (ap (λ (m : Node). m.id.0) e.2 ∙ same)

-- no node, no rank
pub rank_none : (net : Network) (id : ℕ) → ((i : ℕ) (e : List ℕ × Node) → slice_get net i ≡ Some e → e.1.id.0 ≢ id) → rank_of net id ≡ None
rank_none [] id h = refl
rank_none (n ∷ net) id h = by (nat_eq id n.1.id.0) refl (rank_none net id (λ i e at. h (suc i) e at))
  where
    by : (b : Bool) → nat_eq id n.1.id.0 ≡ b → rank_of net id ≡ None → cond b (Some 0) (option_map suc (rank_of net id)) ≡ None
    by true t r = absurd (h 0 n refl (sym (eqb-true id n.1.id.0 t)))
    by false t r = ap (option_map suc) r

-- the node at a rank
pub at_rank : (net : Network) (id i : ℕ) (e : List ℕ × Node) → rank_of net id ≡ Some i → slice_get net i ≡ Some e → (e.1.id.0 ≡ id) × (node_of net id ≡ Some e.1) × (name_of net id ≡ Some e.0)
at_rank [] id i e r at = let bad : ⊥ = cc in absurd bad
at_rank (n ∷ net) id i e r at = by (nat_eq id n.1.id.0) refl r (at_rank net id)
  where
    by : (b : Bool) → nat_eq id n.1.id.0 ≡ b → cond b (Some 0) (option_map suc (rank_of net id)) ≡ Some i
        → ((k : ℕ) (f : List ℕ × Node) → rank_of net id ≡ Some k → slice_get net k ≡ Some f → (f.1.id.0 ≡ id) × (node_of net id ≡ Some f.1) × (name_of net id ≡ Some f.0))
        → (e.1.id.0 ≡ id) × (cond b (Some n.1) (node_of net id) ≡ Some e.1) × (cond b (Some n.0) (name_of net id) ≡ Some e.0)
    by true t q rest =
        let zeroth : 0 ≡ i = cc in
        let here : n ≡ e = (let first : slice_get (n ∷ net) 0 ≡ Some e = subst (λ k. slice_get (n ∷ net) k ≡ Some e) (sym zeroth) at in cc) in
        (sym (ap (λ m. m.1.id.0) here) ∙ sym (eqb-true id n.1.id.0 t), ap (λ m. Some m.1) here, ap (λ m. Some m.0) here)
    by false t q rest = inner (rank_of net id) refl q
      where
        inner : (o : Option ℕ) → rank_of net id ≡ o → option_map suc o ≡ Some i → (e.1.id.0 ≡ id) × (node_of net id ≡ Some e.1) × (name_of net id ≡ Some e.0)
        inner None s p = let bad : ⊥ = cc in absurd bad
        inner (Some k) s p =
            let next : suc k ≡ i = cc in
            rest k e s (subst (λ m. slice_get (n ∷ net) m ≡ Some e) (sym next) at)

pub none_at_rank : (net : Network) (id : ℕ) → rank_of net id ≡ None → (node_of net id ≡ None) × (name_of net id ≡ None)
none_at_rank [] id r = (refl, refl)
none_at_rank (n ∷ net) id r = by (nat_eq id n.1.id.0) r (none_at_rank net id)
  where
    by : (b : Bool) → cond b (Some 0) (option_map suc (rank_of net id)) ≡ None → (rank_of net id ≡ None → (node_of net id ≡ None) × (name_of net id ≡ None))
        → (cond b (Some n.1) (node_of net id) ≡ None) × (cond b (Some n.0) (name_of net id) ≡ None)
    by true q rest = let bad : ⊥ = cc in absurd bad
    by false q rest = rest (inner (rank_of net id) q)
      where
        inner : (o : Option ℕ) → option_map suc o ≡ None → o ≡ None
        inner None p = refl
        inner (Some k) p = let bad : ⊥ = cc in absurd bad

-- some entry, where there is an index
some_entry : (net : Network) (i : ℕ) → i < length net → List ℕ × Node
some_entry [] i l = absurd (omega (arith, l))
some_entry (n ∷ net) i l = n

module _ (net : Network) (up : IsAscending net) (id : ℕ) where
  rises : IsNonDecreasingBy (λ (e : List ℕ × Node). ordering_index (nat_cmp e.1.id.0 id)) net
  rises i j d le l =
      let to = slice_get-get_or net j d l in
      let from = slice_get-get_or net i d (let small : i < length net = omega (arith, le, l) in small) in
      let either : get_or net i d ≡ get_or net i d = refl in
      by (nat_eq i j) refl to from
    where
      by : (b : Bool) → nat_eq i j ≡ b → slice_get net j ≡ Some (get_or net j d) → slice_get net i ≡ Some (get_or net i d)
          → ordering_index (nat_cmp (get_or net i d).1.id.0 id) ≤ ordering_index (nat_cmp (get_or net j d).1.id.0 id)
      by true t to from = subst (λ k. ordering_index (nat_cmp (get_or net i d).1.id.0 id) ≤ ordering_index (nat_cmp (get_or net k d).1.id.0 id)) (eqb-true i j t) (omega arith)
      by false t to from =
          let below : i < j = grind (arith, nat_tests) in
          let less : (get_or net i d).1.id.0 < (get_or net j d).1.id.0 = ascends net up i j (get_or net i d) (get_or net j d) below from to in
          order (get_or net i d).1.id.0 (get_or net j d).1.id.0 less
        where
          order : (a b : ℕ) → a < b → ordering_index (nat_cmp a id) ≤ ordering_index (nat_cmp b id)
          order a b l = grind (arith, nat_tests)

  pub searched : (r : Result ℕ ℕ) → IsSearchInRange r (length net) → IsBinarySearchResult (λ (e : List ℕ × Node). nat_cmp e.1.id.0 id) net r → result_ok r ≡ rank_of net id
  searched (Ok i) within equal =
      let d = some_entry net i within in
      let at = slice_get-get_or net i d within in
      sym (rank_at net up i id (get_or net i d) at (ranked (get_or net i d).1.id.0 id _ (sym (equal d))))
  searched (Err i) within parted = sym (rank_none net id (λ j e at same. other j e at same (nat_lt j i) refl))
    where
      point : IsPartitionPoint (λ (e : List ℕ × Node). nat_cmp e.1.id.0 id ≡ Less) (λ (e : List ℕ × Node). nat_cmp e.1.id.0 id ≡ Greater) net i
      point = parted rises

      other : (j : ℕ) (e : List ℕ × Node) → slice_get net j ≡ Some e → e.1.id.0 ≡ id → (b : Bool) → nat_lt j i ≡ b → ⊥
      other j e at same true t =
          let h : get_or net j e ≡ e = get_or_from_slice_get net j e e at in
          let l : j < i = grind (arith, nat_tests) in
          let less : e.1.id.0 < id = ranked e.1.id.0 id Less (sym (subst (λ (f : List ℕ × Node). nat_cmp f.1.id.0 id ≡ Less) h (point.0 j e (omega arith) l))) in
          omega (arith, less, same)
      other j e at same false t =
          let h : get_or net j e ≡ e = get_or_from_slice_get net j e e at in
          let l : i ≤ j = grind (arith, nat_tests) in
          let greater : id < e.1.id.0 = ranked e.1.id.0 id Greater (sym (subst (λ (f : List ℕ × Node). nat_cmp f.1.id.0 id ≡ Greater) h (point.1 j e l (slice_get_within net j e at)))) in
          omega (arith, greater, same)

-- a rank is below the number of nodes
pub rank_within : (net : Network) (id i : ℕ) → rank_of net id ≡ Some i → i < length net
rank_within [] id i r = let bad : ⊥ = cc in absurd bad
rank_within (n ∷ net) id i r = by (nat_eq id n.1.id.0) r (rank_within net id)
  where
    by : (b : Bool) → cond b (Some 0) (option_map suc (rank_of net id)) ≡ Some i → ((k : ℕ) → rank_of net id ≡ Some k → k < length net) → i < suc (length net)
    by true q rest = let zeroth : 0 ≡ i = cc in omega (arith, zeroth)
    by false q rest = inner (rank_of net id) refl q
      where
        inner : (o : Option ℕ) → rank_of net id ≡ o → option_map suc o ≡ Some i → i < suc (length net)
        inner None s p = let bad : ⊥ = cc in absurd bad
        inner (Some k) s p = let next : suc k ≡ i = cc in omega (arith, next, rest k s)
