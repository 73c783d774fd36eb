-- Nodes that lie downstream of one can stand behind all others.
use Rattle.std.proofs.Common.{◌≡◌, ℕ, ◌<◌, Bool, true, false, not, filter, ◌||◌, nat_eq, true≢false, List, [], ◌∷◌, ◌++◌, slice_get, append-nil, Option, None, Some, refl, sym, ap, subst, ◌∙◌, arith}
use Rattle.std.proofs.lemmas.Option.{slice_get_within}
use Rattle.std.specs.List.{AllByRecursion}
use Rattle.std.specs.Option.{option_map}
use Rattle.viz_base.specs.declared.node.NodeId.{NodeId}
use Rattle.viz_network.specs.declared.node.Node.{Node}
use Rattle.viz_network.specs.Network.{Network, node_of}
use Rattle.viz_network.specs.Cone.{Tree, grow, above, either, has_node}
use Rattle.viz_network.specs.Steps.Order.{IsBefore, IsTale, Has, IsFedFrom, Stands, parted}
use Rattle.viz_network.proofs.TaleLemmas.{whole, holds, joined_port}
use Rattle.viz_network.proofs.StandsLemmas.{Has-left, Has-right, Has-filter, Stands-append, early_stands, late_stands}

some_node : (a b : Node) → Some a ≡ Some b → a ≡ b
some_node a b p = let pick : Option Node → Node = λ o. elim o [ Some z ↦ z | None ↦ a ] in ap pick p

pub or_false : (a b : Bool) → (a || b) ≡ false → (a ≡ false) × (b ≡ false)
or_false false b h = (refl, h)
or_false true b h = absurd (true≢false h)

module _ (net : Network) (tale : List NodeId) (t : IsTale net tale) (to : ℕ) (k : ℕ) (room : k < 256) (front : List NodeId) where
  -- what feeds a node that isn't downstream isn't downstream
  inputs_early : (inputs : List (Option NodeId)) → holds to (grow (above 255 net) inputs) ≡ false → AllByRecursion (IsBefore tale k) inputs
      → AllByRecursion (IsFedFrom front) inputs → AllByRecursion (IsFedFrom (filter (λ y. not (has_node to (above 256 net y.0))) front)) inputs
  inputs_early [] h b g = tt
  inputs_early (None ∷ inputs) h b g = (tt, inputs_early inputs h b.1 g.1)
  inputs_early (Some id ∷ inputs) h b g =
      let both = or_false (has_node to (above 255 net id.0)) (holds to (grow (above 255 net) inputs)) (sym (joined_port either false (λ (n : Node). nat_eq to n.id.0) (λ b. refl) (above 255 net id.0) (grow (above 255 net) inputs)) ∙ h) in
      let early : has_node to (above 256 net id.0) ≡ false = ap (has_node to) (whole net tale t 256 255 b.0.0 id b.0.2 (omega (arith, b.0.1, room)) (omega (arith, b.0.1, room))) ∙ both.0 in
      (Has-filter (λ y. not (has_node to (above 256 net y.0))) front id (ap not early) g.0, inputs_early inputs both.1 b.1 g.1)

-- all that feeds a late node stands in front, early or late
module _ (late : NodeId → Bool) (all front : List NodeId) (known : (y : NodeId) → Has front y → late y ≡ false → Has all y) where
  has_either : (y : NodeId) → Has front y → Has (all ++ filter late front) y
  has_either y h = by (late y) refl
    where
      by : (b : Bool) → late y ≡ b → Has (all ++ filter late front) y
      by true e = Has-right all (filter late front) y (Has-filter late front y e h)
      by false e = Has-left all (filter late front) y (known y h e)

  inputs_either : (inputs : List (Option NodeId)) → AllByRecursion (IsFedFrom front) inputs → AllByRecursion (IsFedFrom (all ++ filter late front)) inputs
  inputs_either [] h = tt
  inputs_either (None ∷ inputs) h = (tt, inputs_either inputs h.1)
  inputs_either (Some id ∷ inputs) h = (has_either id h.0, inputs_either inputs h.1)

-- the nodes stand in order with those downstream of one behind all others
module _ (net : Network) (tale : List NodeId) (t : IsTale net tale) (places : (x : NodeId) (m : Node) → node_of net x.0 ≡ Some m → (k : ℕ) × (slice_get tale k ≡ Some x)) (to : ℕ) where
  -- what a node's mark says of it
  split : (x : NodeId) (m : Node) → node_of net x.0 ≡ Some m → has_node to (above 256 net x.0) ≡ (nat_eq to m.id.0 || holds to (grow (above 255 net) m.inputs))
  split x m h = let tree : Node → Tree = λ v. (v, grow (above 255 net) v.inputs) in ap (λ o. has_node to (option_map tree o)) h

  place_small : (k : ℕ) (x : NodeId) → slice_get tale k ≡ Some x → k < 256
  place_small k x h = omega (arith, slice_get_within tale k x h, t.short)

  early_case : (x : NodeId) (n : Node) → has_node to (above 256 net x.0) ≡ false → node_of net x.0 ≡ Some n
      → (front : List NodeId) → AllByRecursion (IsFedFrom front) n.inputs → AllByRecursion (IsFedFrom (filter (λ y. not (has_node to (above 256 net y.0))) front)) n.inputs
  early_case x n e h front fed =
      let both = or_false (nat_eq to n.id.0) (holds to (grow (above 255 net) n.inputs)) (sym (split x n h) ∙ e) in
      let k = places x n h in
      let node = t.each k.0 x k.1 in
      let inputs = subst (λ v. AllByRecursion (IsBefore tale k.0) v.inputs) (some_node node.0 n (sym node.1 ∙ h)) node.2 in
      inputs_early net tale t to k.0 (place_small k.0 x k.1) front n.inputs both.1 inputs fed

  pub parted_stands : Stands net [] tale → Stands net [] (parted (λ y. has_node to (above 256 net y.0)) tale)
  parted_stands s =
      let late : NodeId → Bool = λ y. has_node to (above 256 net y.0) in
      let all = filter (λ y. not (late y)) tale in
      let late_case = λ (x : NodeId) (n : Node) (front : List NodeId) (fed : AllByRecursion (IsFedFrom front) n.inputs) (known : (y : NodeId) → Has front y → late y ≡ false → Has all y). inputs_either late all front known n.inputs fed in
      let front = early_stands net late all early_case late_case [] tale s in
      let back = late_stands net late all early_case late_case [] tale (λ y k e. Has-filter (λ z. not (late z)) tale y (ap not e) k) s in
      Stands-append net [] all (filter late tale) front (subst (λ f. Stands net f (filter late tale)) (append-nil all) back)
