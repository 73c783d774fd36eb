-- What is joined over a node's cone is found from a table of what its inputs have.
use Rattle.std.proofs.Common.{◌≡◌, ℕ, ◌+◌, ◌<◌, Bool, true, false, nat_eq, List, [], ◌∷◌, length, set, get_or, slice_get, Option, None, Some, refl, sym, ap, subst, ◌∙◌, arith}
use Rattle.std.proofs.lemmas.Bool.{eqb-true}
use Rattle.std.proofs.lemmas.Bool.Decides.{nat_tests}
use Rattle.std.proofs.lemmas.List.{get_or-set_same, get_or-set_other, length-set}
use Rattle.std.proofs.lemmas.Option.{slice_get_within, slice_get-get_or, get_or_from_slice_get}
use Rattle.std.specs.List.{AllByRecursion}
use Rattle.std.specs.Option.{option_map, option_map_or}
use Rattle.viz_base.specs.declared.node.NodeId.{NodeId}
use Rattle.viz_network.specs.declared.node.Node.{Node}
use Rattle.viz_network.specs.Network.{Network, node_of}
use Rattle.viz_network.specs.Cone.{Tree, grow, above, joined, total}
use Rattle.viz_network.specs.Steps.Order.{IsBefore, IsTale, rank_of}
use Rattle.viz_network.specs.Steps.Marks.{IsTold, told, ports_told}
use Rattle.viz_network.proofs.TaleLemmas.{whole, joined_port}
use Rattle.viz_network.proofs.RankLemmas.{at_rank, none_at_rank, rank_within}

-- a node of the network has a rank
pub rank_some : (net : Network) (id : ℕ) (n : Node) → node_of net id ≡ Some n → (i : ℕ) × (rank_of net id ≡ Some i)
rank_some net id n h = by (rank_of net id) refl
  where
    by : (o : Option ℕ) → rank_of net id ≡ o → (i : ℕ) × (rank_of net id ≡ Some i)
    by (Some i) r = (i, r)
    by None r = let bad : Some n ≡ None = sym h ∙ (none_at_rank net id r).0 in let no : ⊥ = cc in absurd no

-- two nodes of one rank are one
pub same_id : (net : Network) (a b i : ℕ) (d : List ℕ × Node) → rank_of net a ≡ Some i → rank_of net b ≡ Some i → i < length net → a ≡ b
same_id net a b i d p q l =
    let at = slice_get-get_or net i d l in
    sym (at_rank net a i (get_or net i d) p at).0 ∙ (at_rank net b i (get_or net i d) q at).0

module _ {X : Type 0} (join : X → X → X) (start : X) (own : Node → X) (neutral : (x : X) → join start x ≡ x) (net : Network) (order : List NodeId) (t : IsTale net order) where
  value : ℕ → X
  value id = total join start own (above 256 net id)

  module _ (k : ℕ) (room : k < 256) (table : List X) (known : IsTold join start own net order k table) where
    told_value : (j : ℕ) (x : NodeId) → j < k → slice_get order j ≡ Some x → told start net table x.0 ≡ total join start own (above 256 net x.0)
    told_value j x l at =
        let node = t.each j x at in
        let rank = rank_some net x.0 node.0 node.1 in
        ap (λ o. option_map_or (λ i. get_or table i start) o start) rank.1 ∙ get_or_from_slice_get table rank.0 _ start (known j x rank.0 l at rank.1)

    ports_value : (inputs : List (Option NodeId)) → AllByRecursion (IsBefore order k) inputs → ports_told join start net table inputs ≡ joined join start own (grow (above 255 net) inputs)
    ports_value [] h = refl
    ports_value (None ∷ inputs) h = ports_value inputs h.1
    ports_value (Some id ∷ inputs) h =
        ap (λ v. join v (ports_told join start net table inputs)) (told_value h.0.0 id h.0.1 h.0.2)
        ∙ ap (λ v. join (total join start own (above 256 net id.0)) v) (ports_value inputs h.1)
        ∙ ap (λ o. join (total join start own o) (joined join start own (grow (above 255 net) inputs))) (whole net order t 256 255 h.0.0 id h.0.2 (omega (arith, h.0.1, room)) (omega (arith, h.0.1, room)))
        ∙ sym (joined_port join start own neutral (above 255 net id.0) (grow (above 255 net) inputs))

    -- the next row of the table
    pub next_value : (x : NodeId) (n : Node) → slice_get order k ≡ Some x → node_of net x.0 ≡ Some n → join (own n) (ports_told join start net table n.inputs) ≡ total join start own (above 256 net x.0)
    next_value x n at found =
        let node = t.each k x at in
        let same : node.0 ≡ n = (let some : Some node.0 ≡ Some n = sym node.1 ∙ found in cc) in
        let tree : Node → Tree = λ v. (v, grow (above 255 net) v.inputs) in
        ap (join (own n)) (ports_value n.inputs (subst (λ v. AllByRecursion (IsBefore order k) v.inputs) same node.2))
        ∙ sym (ap (λ o. total join start own (option_map tree o)) found)

    pub told_more : (x : NodeId) (r : ℕ) (v : X) → slice_get order k ≡ Some x → rank_of net x.0 ≡ Some r → r < length table
        → v ≡ total join start own (above 256 net x.0) → IsTold join start own net order (k + 1) (set table r v)
    told_more x r v at rank within is j y i l atj ranked = by (nat_eq i r) refl
      where
        size : length (set table r v) ≡ length table
        size = length-set table r v

        first : slice_get (set table r v) r ≡ Some v
        first = slice_get-get_or (set table r v) r v (omega (arith, within, size)) ∙ ap Some (get_or-set_same table r v v within)

        by : (b : Bool) → nat_eq i r ≡ b → slice_get (set table r v) i ≡ Some (total join start own (above 256 net y.0))
        by true e =
            let there : i ≡ r = eqb-true i r e in
            let one : x.0 ≡ y.0 = same_id net x.0 y.0 r ([], (t.each k x at).0) rank (ranked ∙ ap Some there) (rank_within net x.0 r rank) in
            ap (slice_get (set table r v)) there ∙ first ∙ ap Some (is ∙ ap (λ id. total join start own (above 256 net id)) one)
        by false e = earlier (nat_eq j k) refl
          where
            earlier : (c : Bool) → nat_eq j k ≡ c → slice_get (set table r v) i ≡ Some (total join start own (above 256 net y.0))
            earlier true f =
                let here : j ≡ k = eqb-true j k f in
                let one : Some y ≡ Some x = sym atj ∙ ap (slice_get order) here ∙ at in
                let same : y ≡ x = cc in
                let hit : Some i ≡ Some r = sym ranked ∙ ap (λ z. rank_of net z.0) same ∙ rank in
                let index : i ≡ r = cc in
                absurd (grind (arith, nat_tests))
            earlier false f =
                let before : j < k = grind (arith, nat_tests) in
                let was = known j y i before atj ranked in
                let differs : (i ≡ r → ⊥) = λ q. grind (arith, nat_tests) in
                let here = slice_get_within table i _ was in
                slice_get-get_or (set table r v) i v (omega (arith, here, size)) ∙ ap Some (get_or-set_other table r i v v differs ∙ get_or_from_slice_get table i _ v was)
