-- What an order of all nodes gives.
use Rattle.std.proofs.Common.{◌≡◌, ℕ, zero, suc, ◌+◌, ◌<◌, inl, inr, List, [], ◌∷◌, length, set, get_or, slice_get, Option, None, Some, IsSome, zero-add, refl, sym, ap, subst, max, ◌∙◌, arith}
use Rattle.std.proofs.lemmas.Option.{slice_get_within, slice_get-get_or, get_or_from_slice_get}
use Rattle.std.specs.List.{AllByRecursion}
use Rattle.std.specs.Option.{option_map, option_map_or}
use Rattle.std.specs.Map.{values_of}
use Rattle.viz_base.specs.declared.node.NodeId.{NodeId}
use Rattle.viz_network.specs.declared.node.Node.{Node}
use Rattle.viz_network.specs.Network.{Network, node_of}
use Rattle.viz_network.specs.Cone.{Tree, grow, total, above, newest, own_stamp, cone_of, stamp_of}
use Rattle.viz_network.specs.Steps.Order.{Has, IsBefore, IsOrder, IsTale, rank_of}
use Rattle.viz_network.specs.Steps.Marks.{IsTold, IsStamped, told, ports_told}
use Rattle.viz_network.proofs.StandsLemmas.{by_places}
use Rattle.viz_network.proofs.TaleLemmas.{node_id}
use Rattle.viz_network.proofs.ToldLemmas.{rank_some, next_value, told_more}
use Rattle.viz_network.proofs.RankLemmas.{at_rank, rank_within, value_entry}

-- the order by places
pub tale_of : (net : Network) (order : List NodeId) → IsOrder net order → IsTale net order
tale_of net order o = record { each = each; short = omega (arith, o.short, o.few) }
  where
    each : (k : ℕ) (x : NodeId) → slice_get order k ≡ Some x → (n : Node) × (node_of net x.0 ≡ Some n) × AllByRecursion (IsBefore order k) n.inputs
    each k x at = let r = by_places net [] order o.stands k x at in (r.0, r.1, subst (λ j. AllByRecursion (IsBefore order j) r.0.inputs) (zero-add k) r.2)

-- a node in a list has a place in it
pub has_place : (xs : List NodeId) (x : NodeId) → Has xs x → (j : ℕ) × (slice_get xs j ≡ Some x)
has_place [] x h = absurd h
has_place (y ∷ xs) x (inl e) = (0, ap Some (sym e))
has_place (y ∷ xs) x (inr h) = let r = has_place xs x h in (suc r.0, r.1)

pub is_some_of : {A : Type 0} (o : Option A) (x : A) → o ≡ Some x → IsSome o
is_some_of None x h = let bad : ⊥ = cc in absurd bad
is_some_of (Some y) x h = refl

pub some_of : {A : Type 0} (o : Option A) → IsSome o → (x : A) × (o ≡ Some x)
some_of None h = let bad : ⊥ = cc in absurd bad
some_of (Some x) h = (x, refl)

-- each place has a node of the network
pub stands_there : (net : Network) (order : List NodeId) → IsOrder net order → (k : ℕ) (d : NodeId) → k < length order → IsSome (node_of net (get_or order k d).0)
stands_there net order o k d l =
    let t = tale_of net order o in
    let node = t.each k (get_or order k d) (slice_get-get_or order k d l) in
    is_some_of (node_of net (get_or order k d).0) node.0 node.1

pub ranks_there : (net : Network) (id : ℕ) → IsSome (node_of net id) → IsSome (rank_of net id)
ranks_there net id h =
    let n = some_of (node_of net id) h in
    let r = rank_some net id n.0 n.1 in
    is_some_of (rank_of net id) r.0 r.1

-- each node of the network has a place
pub places_of : (net : Network) (order : List NodeId) → IsOrder net order → (x : NodeId) (m : Node) → node_of net x.0 ≡ Some m → Has order x
places_of net order o x m h = subst (Has order) (let same : m.id ≡ x = id_is m.id x (node_id net x.0 m h) in same) (o.covers x.0 m h)
  where
    id_is : (a b : NodeId) → a.0 ≡ b.0 → a ≡ b
    id_is a b e = let made : ℕ → NodeId = λ i. record { 0 = i } in ap made e

-- a whole table has what is joined over the cone of each node
module _ {X : Type 0} (join : X → X → X) (start : X) (own : Node → X) (net : Network) (order : List NodeId) (o : IsOrder net order) (table : List X)
    (known : IsTold join start own net order (length order) table) where
  pub whole_table : (id r : ℕ) (d : X) → IsSome (node_of net id) → rank_of net id ≡ Some r → get_or table r d ≡ total join start own (above 256 net id)
  whole_table id r d h rank =
      let n = some_of (node_of net id) h in
      let x : NodeId = record { 0 = id } in
      let at = has_place order x (places_of net order o x n.0 n.1) in
      get_or_from_slice_get table r _ d (known at.0 x r (slice_get_within order at.0 x at.1) at.1 rank)

  pub whole_told : (id : ℕ) → IsSome (node_of net id) → told start net table id ≡ total join start own (above 256 net id)
  whole_told id h =
      let n = some_of (node_of net id) h in
      let rank = rank_some net id n.0 n.1 in
      ap (λ (q : Option ℕ). option_map_or (λ i. get_or table i start) q start) rank.1 ∙ whole_table id rank.0 start h rank.1

-- one row more of a table
pub swept_more : {X : Type 0} (join : X → X → X) (start : X) (own : Node → X) → ((x : X) → join start x ≡ x) → (net : Network) (order : List NodeId) → IsOrder net order
    → (k r : ℕ) (d : NodeId) (table : List X) (n : Node) (v : X) → k < length order → length table ≡ 256 → IsTold join start own net order k table
    → rank_of net (get_or order k d).0 ≡ Some r → slice_get (values_of net) r ≡ Some n → v ≡ join (own n) (ports_told join start net table n.inputs)
    → IsTold join start own net order (k + 1) (set table r v)
swept_more join start own neutral net order o k r d table n v l size known rank at is =
    let x = get_or order k d in
    let t = tale_of net order o in
    let here = slice_get-get_or order k d l in
    let e = value_entry net r n at in
    let found = (at_rank net x.0 r e.0 rank e.1).1 ∙ ap Some e.2 in
    let small : k < 256 = omega (arith, l, t.short) in
    let within : r < length table = omega (arith, rank_within net x.0 r rank, size, o.few) in
    told_more join start own neutral net order t k small table known x r v here rank within (is ∙ next_value join start own neutral net order t k small table known x n here found)

-- the stamp of a node that is there
pub stamp_there : (net : Network) (id : ℕ) → IsSome (node_of net id) → stamp_of net id ≡ Some (newest (cone_of net id))
stamp_there net id h =
    let n = some_of (node_of net id) h in
    let tree : Node → Tree = λ v. (v, grow (above 255 net) v.inputs) in
    ap (λ o. option_map (λ t. newest (Some t)) (option_map tree o)) n.1 ∙ sym (ap (λ o. Some (newest (option_map tree o))) n.1)

-- there is an entry at each index
entry_there : (net : Network) (i : ℕ) → i < length net → (e : List ℕ × Node) × (slice_get net i ≡ Some e)
entry_there [] i l = absurd (omega (arith, l))
entry_there (e ∷ net) zero l = (e, refl)
entry_there (e ∷ net) (suc i) l = entry_there net i (omega (arith, l))

-- a whole table has the stamp of each node
pub stamped : (net : Network) (order : List NodeId) → IsOrder net order → (table : List ℕ) → length table ≡ 256
    → IsTold max 0 own_stamp net order (length order) table → IsStamped net table
stamped net order o table size known = record { each = each; size = size; ascending = o.ascending; few = o.few }
  where
    each : (id rank : ℕ) → rank_of net id ≡ Some rank → slice_get table rank ≡ stamp_of net id
    each id rank r =
        let e = entry_there net rank (rank_within net id rank r) in
        let found = (at_rank net id rank e.0 r e.1).1 in
        let x : NodeId = record { 0 = id } in
        let at = has_place order x (places_of net order o x e.0.1 found) in
        known at.0 x rank (slice_get_within order at.0 x at.1) at.1 r ∙ sym (stamp_there net id (is_some_of (node_of net id) e.0.1 found))

-- a node that isn't there has no stamp
pub stamp_nowhere : (net : Network) (id : ℕ) → node_of net id ≡ None → stamp_of net id ≡ None
stamp_nowhere net id h =
    let tree : Node → Tree = λ v. (v, grow (above 255 net) v.inputs) in
    ap (λ o. option_map (λ t. newest (Some t)) (option_map tree o)) h
