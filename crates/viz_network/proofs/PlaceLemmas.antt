-- Steps are the nodes of an order, each with the places of what feeds it.
use Rattle.std.proofs.Common.{◌≡◌, ℕ, zero, suc, ◌+◌, ◌<◌, ◌⊎◌, inl, inr, Bool, true, false, nat_eq, List, [], ◌∷◌, ◌++◌, length, length-append, map, set, get_or, slice_get, Option, None, Some, refl, sym, ap, subst, ◌∙◌, arith}
use Rattle.std.proofs.lemmas.Bool.{eqb-true}
use Rattle.std.proofs.lemmas.Bool.Decides.{nat_tests}
use Rattle.std.proofs.lemmas.List.{get_or-set_same, get_or-set_other, length-set}
use Rattle.std.proofs.lemmas.Option.{slice_get_within, slice_get-get_or, get_or_from_slice_get}
use Rattle.std.specs.List.{AllByRecursion}
use Rattle.std.specs.Map.{values_of}
use Rattle.std.specs.Option.{option_map}
use Rattle.viz_base.specs.declared.node.NodeId.{NodeId}
use Rattle.viz_network.specs.declared.node.Node.{Node}
use Rattle.viz_network.specs.declared.steps.Step.{Step}
use Rattle.viz_network.specs.Network.{Network, node_of}
use Rattle.viz_network.specs.Cone.{Tree, grow, above, cone_of}
use Rattle.viz_network.specs.Step.{nodes_of, AreFed, IsStepOf, AreSteps}
use Rattle.viz_network.specs.Steps.Order.{IsBefore, IsOrder, IsTale, rank_of}
use Rattle.viz_network.specs.Steps.Places.{place_told, ArePlaces, AreFirstSteps}
use Rattle.viz_network.proofs.OrderLemmas.{tale_of, has_place, places_of}
use Rattle.viz_network.proofs.TaleLemmas.{whole, grow_same}
use Rattle.viz_network.proofs.ToldLemmas.{rank_some, same_id}
use Rattle.viz_network.proofs.RankLemmas.{at_rank, rank_within, value_entry}

-- an item of a list with one more is one of the list, or the one more
last_or : {A : Type 0} (xs : List A) (y : A) (j : ℕ) (x : A) → slice_get (xs ++ y ∷ []) j ≡ Some x → (slice_get xs j ≡ Some x) ⊎ ((j ≡ length xs) × (x ≡ y))
last_or [] y zero x at = inr (refl, (let e : x ≡ y = cc in e))
last_or [] y (suc j) x at = let bad : ⊥ = cc in absurd bad
last_or (z ∷ xs) y zero x at = inl at
last_or (z ∷ xs) y (suc j) x at = elim (last_or xs y j x at) [ inl e ↦ inl e | inr e ↦ inr (ap suc e.0, e.1) ]

-- a cone grows from those of its inputs
cone_grows : (net : Network) (order : List NodeId) → IsTale net order → (k : ℕ) (x : NodeId) → slice_get order k ≡ Some x
    → (n : Node) → node_of net x.0 ≡ Some n → cone_of net x.0 ≡ Some (n, grow (cone_of net) n.inputs)
cone_grows net order t k x at n found =
    let node = t.each k x at in
    let same : node.0 ≡ n = (let some : Some node.0 ≡ Some n = sym node.1 ∙ found in cc) in
    let fed = subst (λ v. AllByRecursion (IsBefore order k) v.inputs) same node.2 in
    let within = slice_get_within order k x at in
    let tree : Node → Tree = λ v. (v, grow (above 255 net) v.inputs) in
    let e = grow_same order (above 255 net) (above 256 net) k
    (λ j y l here. whole net order t 255 256 j y here (omega (arith, l, within, t.short)) (omega (arith, l, within, t.short))) n.inputs fed in
    ap (option_map tree) found ∙ ap (λ c. Some (n, c)) e

module _ (net : Network) (order : List NodeId) (k : ℕ) (table : List ℕ) (known : ArePlaces net order k table) (t : IsTale net order) where
  -- the table has the places of what feeds the ports
  fed_places : (inputs : List (Option NodeId)) → AllByRecursion (IsBefore order k) inputs → AreFed order k inputs (map (place_told net table) inputs)
  fed_places [] h = tt
  fed_places (None ∷ inputs) h = fed_places inputs h.1
  fed_places (Some id ∷ inputs) h =
      let node = t.each h.0.0 id h.0.2 in
      let rank = rank_some net id.0 node.0 node.1 in
      let p = known h.0.0 id rank.0 h.0.1 h.0.2 rank.1 in
      let told : place_told net table (Some id) ≡ Some p.0 =
      ap (option_map (λ i. get_or table i 0)) rank.1 ∙ ap Some (get_or_from_slice_get table rank.0 p.0 0 p.2) in
      subst (λ o. AreFed order k (Some id ∷ inputs) (o ∷ map (place_told net table) inputs)) (sym told) (p.1, p.3, fed_places inputs h.1)

  -- with the place of one node more
  more_places : (x : NodeId) (n : Node) (r : ℕ) → slice_get order k ≡ Some x → node_of net x.0 ≡ Some n → rank_of net x.0 ≡ Some r → r < length table → ArePlaces net order (k + 1) (set table r k)
  more_places x n r at found rank within j y i l atj ranked = by (nat_eq i r) refl
    where
      size : length (set table r k) ≡ length table
      size = length-set table r k

      Place : Type 0
      Place = (p : ℕ) × (p < k + 1) × (slice_get (set table r k) i ≡ Some p) × (slice_get order p ≡ Some y)

      by : (b : Bool) → nat_eq i r ≡ b → Place
      by true e =
          let there : i ≡ r = eqb-true i r e in
          let one : y.0 ≡ x.0 = same_id net y.0 x.0 r ([], n) (ranked ∙ ap Some there) rank (rank_within net x.0 r rank) in
          let made : ℕ → NodeId = λ z. record { 0 = z } in
          let same : y ≡ x = ap made one in
          let first : slice_get (set table r k) r ≡ Some k = slice_get-get_or (set table r k) r k (omega (arith, within, size)) ∙ ap Some (get_or-set_same table r k k within) in
          (k, omega arith, ap (slice_get (set table r k)) there ∙ first, at ∙ ap Some (sym same))
      by false e = earlier (nat_eq j k) refl
        where
          earlier : (c : Bool) → nat_eq j k ≡ c → Place
          earlier true f =
              let here : j ≡ k = eqb-true j k f in
              let one : Some y ≡ Some x = sym atj ∙ ap (slice_get order) here ∙ at in
              let same : y ≡ x = cc in
              let hit : Some i ≡ Some r = sym ranked ∙ ap (λ z. rank_of net z.0) same ∙ rank in
              let index : i ≡ r = cc in
              absurd (grind (arith, nat_tests))
          earlier false f =
              let before : j < k = grind (arith, nat_tests) in
              let was = known j y i before atj ranked in
              let differs : (i ≡ r → ⊥) = λ q. grind (arith, nat_tests) in
              let here = slice_get_within table i _ was.2 in
              (was.0, omega (arith, was.1), slice_get-get_or (set table r k) i k (omega (arith, here, size)) ∙ ap Some (get_or-set_other table r i k k differs ∙ get_or_from_slice_get table i _ k was.2), was.3)

-- no step yet
pub no_steps : (net : Network) (order : List NodeId) (table : List ℕ) → length table ≡ 256 → AreFirstSteps net order 0 table []
no_steps net order table long = record {
  each = λ j s at. (let bad : ⊥ = cc in absurd bad);
  places = λ j x i l at rank. absurd (omega (arith, l));
  long = long;
  count = refl;
}

-- one step more
pub more_steps : (net : Network) (order : List NodeId) → IsOrder net order → (k r : ℕ) (d : NodeId) (table : List ℕ) (steps : List Step) (n : Node) (places : List (Option ℕ))
    → k < length order → AreFirstSteps net order k table steps → rank_of net (get_or order k d).0 ≡ Some r → slice_get (values_of net) r ≡ Some n
    → places ≡ map (place_told net table) n.inputs → AreFirstSteps net order (k + 1) (set table r k) (steps ++ record { node = get_or order k d; inputs = places } ∷ [])
more_steps net order o k r d table steps n places l first rank at is =
    let x = get_or order k d in
    let s : Step = record { node = x; inputs = places } in
    let t = tale_of net order o in
    let here = slice_get-get_or order k d l in
    let e = value_entry net r n at in
    let found = (at_rank net x.0 r e.0 rank e.1).1 ∙ ap Some e.2 in
    let node = t.each k x here in
    let same : node.0 ≡ n = (let some : Some node.0 ≡ Some n = sym node.1 ∙ found in cc) in
    let before = subst (λ v. AllByRecursion (IsBefore order k) v.inputs) same node.2 in
    let within : r < length table = omega (arith, rank_within net x.0 r rank, first.long, o.few) in
    let step : IsStepOf net order k s = record {
      node = n;
      there = found;
      fed = subst (AreFed order k n.inputs) (sym is) (fed_places net order k table first.places t n.inputs before);
      cone = cone_grows net order t k x here n found;
    } in
    record {
      each = λ j z atj. elim (last_or steps s j z atj) [
        | inl old ↦ first.each j z old
        | inr e ↦ (let place : j ≡ k = e.0 ∙ first.count in
            (ap (slice_get order) place ∙ here ∙ ap (λ q. Some q.node) (sym e.1), subst (λ q. IsStepOf net order q z) (sym place) (subst (IsStepOf net order k) (sym e.1) step)))
      ];
      places = more_places net order k table first.places t x n r here found rank within;
      long = length-set table r k ∙ first.long;
      count = length-append steps (s ∷ []) ∙ ap (λ q. q + 1) first.count;
    }

-- the nodes of the steps are the order
nodes_are : (order : List NodeId) (steps : List Step) → length steps ≡ length order → ((j : ℕ) (s : Step) → slice_get steps j ≡ Some s → slice_get order j ≡ Some s.node) → nodes_of steps ≡ order
nodes_are [] [] size each = refl
nodes_are [] (s ∷ steps) size each = absurd (omega (arith, size))
nodes_are (x ∷ order) [] size each = absurd (omega (arith, size))
nodes_are (x ∷ order) (s ∷ steps) size each =
    let first : x ≡ s.node = (let e = each 0 s refl in cc) in
    ap (λ y. y ∷ nodes_of steps) (sym first) ∙ ap (λ ys. x ∷ ys) (nodes_are order steps (omega (arith, size)) (λ j z at. each (suc j) z at))

-- all steps
pub all_steps : (net : Network) (order : List NodeId) → IsOrder net order → (table : List ℕ) (steps : List Step) → AreFirstSteps net order (length order) table steps → AreSteps net steps
all_steps net order o table steps first =
    let e = nodes_are order steps first.count (λ j s at. (first.each j s at).0) in
    record {
      each = λ k s at. subst (λ all. IsStepOf net all k s) (sym e) (first.each k s at).1;
      covers = λ x n h. (let p = has_place order x (places_of net order o x n h) in (p.0, ap (λ all. slice_get all p.0) e ∙ p.1));
      few = omega (arith, first.count, o.short, o.few);
    }
