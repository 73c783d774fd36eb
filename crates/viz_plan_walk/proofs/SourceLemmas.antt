-- Where requests go.
use Rattle.std.proofs.Common.{◌≡◌, ℕ, zero, suc, ◌+◌, ◌<◌, ◌≤◌, ◌⊎◌, inl, inr, Bool, true, false, List, [], ◌∷◌, ◌++◌, length, map, take, slice_get, Option, None, Some, refl, sym, ap, subst, ◌∙◌, arith}
use Rattle.std.proofs.lemmas.Option.{slice_get-get_or}
use lib.ListN.{get_or}
use Rattle.viz_base.specs.declared.node.NodeId.{NodeId}
use Rattle.viz_network.specs.declared.node.Node.{Node}
use Rattle.viz_network.specs.declared.steps.Step.{Step}
use Rattle.viz_network.specs.Network.{Network, node_of}
use Rattle.viz_network.specs.Cone.{Cone as Real, Tree, none as no_port, grow, port, cone_of}
use Rattle.viz_network.specs.Step.{nodes_of, AreFed, AreSteps}
use Rattle.viz_network.proofs.TaleLemmas.{node_id}
use Rattle.viz_plan_meaning.specs.Plan.{Upstream, none, empty, fed, heads}
use Rattle.viz_plan_meaning.specs.Networks.{passes, passed, way_of, ways, ways_above, ways_at, ways_to, head_of}
use Rattle.viz_plan_walk.specs.TaskSteps.{IsAt, AreSourced, AreTasks, got, told, first, source_by, source_of, AreFirstTasks}

-- an item of a list with one more
last_or : {A : Type 0} (xs : List A) (y : A) (j : ℕ) (x : A) → slice_get (xs ++ y ∷ []) j ≡ Some x → (slice_get xs j ≡ Some x) ⊎ ((j ≡ length xs) × (x ≡ y))
last_or [] y zero x at = inr (refl, (let e : x ≡ y = cc in e))
last_or [] y (suc j) x at = let bad : ⊥ = cc in absurd bad
last_or (z ∷ xs) y zero x at = inl at
last_or (z ∷ xs) y (suc j) x at = elim (last_or xs y j x at) [ inl e ↦ inl e | inr e ↦ inr (ap suc e.0, e.1) ]

longer : {A : Type 0} (xs : List A) (y : A) → length (xs ++ y ∷ []) ≡ suc (length xs)
longer [] y = refl
longer (x ∷ xs) y = ap suc (longer xs y)

take_more : {A : Type 0} (xs : List A) (k : ℕ) (x : A) → slice_get xs k ≡ Some x → take (suc k) xs ≡ take k xs ++ x ∷ []
take_more [] k x e = let bad : ⊥ = cc in absurd bad
take_more (y ∷ xs) zero x e = let p : y ≡ x = cc in ap (λ z. z ∷ []) p
take_more (y ∷ xs) (suc k) x e = ap (λ l. y ∷ l) (take_more xs k x e)

take_whole : {A : Type 0} (xs : List A) (k : ℕ) → length xs ≤ k → take k xs ≡ xs
take_whole [] zero l = refl
take_whole [] (suc k) l = refl
take_whole (x ∷ xs) zero l = absurd (omega (arith, l))
take_whole (x ∷ xs) (suc k) l = ap (λ t. x ∷ t) (take_whole xs k (omega (arith, l)))

nodes_more : (tasks : List Step) (t : Step) → nodes_of (tasks ++ t ∷ []) ≡ nodes_of tasks ++ t.node ∷ []
nodes_more [] t = refl
nodes_more (s ∷ tasks) t = ap (λ l. s.node ∷ l) (nodes_more tasks t)

node_at : (steps : List Step) (k : ℕ) (s : Step) → slice_get steps k ≡ Some s → slice_get (nodes_of steps) k ≡ Some s.node
node_at [] k s e = let bad : ⊥ = cc in absurd bad
node_at (t ∷ steps) zero s e = let p : t ≡ s = cc in ap (λ u. Some u.node) p
node_at (t ∷ steps) (suc k) s e = node_at steps k s e

later : (order : List NodeId) (j k place id : ℕ) → j ≤ k → IsAt order j place id → IsAt order k place id
later order j k place id l a = record { before = (let b = a.before in omega (arith, l, b)); node = a.node; there = a.there; is = a.is }

-- one before others
sourced_cons : (order : List NodeId) (j k : ℕ) (o s : Option ℕ) (hs ps : List (Option ℕ)) → j ≤ k → AreSourced order j (o ∷ []) (s ∷ []) → AreSourced order k hs ps → AreSourced order k (o ∷ hs) (s ∷ ps)
sourced_cons order j k None None hs ps l a b = b
sourced_cons order j k (Some id) (Some p) hs ps l a b = (later order j k p id l a.0, b)
sourced_cons order j k None (Some p) hs ps l a b = absurd a
sourced_cons order j k (Some id) None hs ps l a b = absurd a

heads_passed : (own others : Upstream) → heads (passed own others) ≡ head_of (passed own none) ∷ heads others
heads_passed none others = refl
heads_passed (empty c) others = refl
heads_passed (fed n own c) others = refl

heads_way : (b : Bool) (id : ℕ) (own others : Upstream) → heads (way_of b id own others) ≡ head_of (way_of b id own none) ∷ heads others
heads_way true id own others = heads_passed own others
heads_way false id own others = refl

heads_port : (t : Option Tree) (others : Real) → heads (ways (port t others)) ≡ head_of (ways (port t no_port)) ∷ heads (ways others)
heads_port None others = refl
heads_port (Some t) others = heads_way (passes t.0.settings) t.0.id.0 (ways t.1) (ways others)

-- a node's first input
first_sourced : (order : List NodeId) (k : ℕ) (c : Upstream) (is : List (Option ℕ)) → AreSourced order k (heads c) is → AreSourced order (suc k) (head_of (passed c none) ∷ []) (first is ∷ [])
first_sourced order k none [] a = tt
first_sourced order k none (i ∷ is) a = absurd a
first_sourced order k (empty c) [] a = absurd a
first_sourced order k (empty c) (None ∷ is) a = tt
first_sourced order k (empty c) (Some p ∷ is) a = absurd a
first_sourced order k (fed n own c) [] a = absurd a
first_sourced order k (fed n own c) (None ∷ is) a = absurd a
first_sourced order k (fed n own c) (Some p ∷ is) a = (later order k (suc k) p n (omega arith) a.0, tt)

module _ (net : Network) (order : List NodeId) where
  own_sourced : (n : Node) (k : ℕ) (x : NodeId) (is : List (Option ℕ)) → slice_get order k ≡ Some x → node_of net x.0 ≡ Some n → cone_of net x.0 ≡ Some (n, grow (cone_of net) n.inputs)
      → AreSourced order k (heads (ways_at net x.0)) is → AreSourced order (suc k) (head_of (ways_to net x.0) ∷ []) (source_by (passes n.settings) k is ∷ [])
  own_sourced n k x is at there cone a =
      subst (λ t. AreSourced order (suc k) (head_of (ways (port t no_port)) ∷ []) (source_by (passes n.settings) k is ∷ [])) (sym cone)
      (by (passes n.settings) (subst (λ c. AreSourced order k (heads c) is) (ap ways_above cone) a))
    where
      by : (p : Bool) → AreSourced order k (heads (ways (grow (cone_of net) n.inputs))) is
          → AreSourced order (suc k) (head_of (way_of p n.id.0 (ways (grow (cone_of net) n.inputs)) none) ∷ []) (source_by p k is ∷ [])
      by true b = first_sourced order k (ways (grow (cone_of net) n.inputs)) is b
      by false b = (record { before = omega arith; node = x; there = at; is = sym (node_id net x.0 n there) }, tt)

  inputs_sourced : (k : ℕ) (sources : List (Option ℕ)) → length sources ≡ k
      → ((j : ℕ) (x : NodeId) (s : Option ℕ) → slice_get order j ≡ Some x → slice_get sources j ≡ Some s → AreSourced order (suc j) (head_of (ways_to net x.0) ∷ []) (s ∷ []))
      → (inputs : List (Option NodeId)) (places : List (Option ℕ)) → AreFed order k inputs places
      → AreSourced order k (heads (ways (grow (cone_of net) inputs))) (map (told sources) places)
  inputs_sourced k sources count own [] [] f = tt
  inputs_sourced k sources count own (None ∷ inputs) (None ∷ places) f = inputs_sourced k sources count own inputs places f
  inputs_sourced k sources count own (Some x ∷ inputs) (Some p ∷ places) f =
      let before : p < k = f.0 in
      let s = get_or sources p None in
      let at : slice_get sources p ≡ Some s = slice_get-get_or sources p None (omega (arith, before, count)) in
      subst (λ h. AreSourced order k h (got (slice_get sources p) ∷ map (told sources) places)) (sym (heads_port (cone_of net x.0) (grow (cone_of net) inputs)))
      (subst (λ g. AreSourced order k (head_of (ways_to net x.0) ∷ heads (ways (grow (cone_of net) inputs))) (g ∷ map (told sources) places)) (sym (ap got at))
      (sourced_cons order (suc p) k (head_of (ways_to net x.0)) s _ _ (omega (arith, before)) (own p x s f.1 at) (inputs_sourced k sources count own inputs places f.2)))
  inputs_sourced k sources count own [] (p ∷ places) f = absurd f
  inputs_sourced k sources count own (None ∷ inputs) [] f = absurd f
  inputs_sourced k sources count own (None ∷ inputs) (Some p ∷ places) f = absurd f
  inputs_sourced k sources count own (Some x ∷ inputs) [] f = absurd f
  inputs_sourced k sources count own (Some x ∷ inputs) (None ∷ places) f = absurd f

module _ (net : Network) (steps : List Step) (are : AreSteps net steps) where
  pub no_tasks : AreFirstTasks net (nodes_of steps) 0 [] []
  no_tasks = record {
    nodes = refl;
    count = refl;
    each = λ j t e. (let bad : ⊥ = cc in absurd bad);
    told_count = refl;
    own = λ j x s e f. (let bad : ⊥ = cc in absurd bad);
  }

  -- one step more
  pub more_tasks : (k : ℕ) (s : Step) (tasks : List Step) (sources : List (Option ℕ)) (is : List (Option ℕ)) (source : Option ℕ) → slice_get steps k ≡ Some s
      → AreFirstTasks net (nodes_of steps) k tasks sources → is ≡ map (told sources) s.inputs → source ≡ source_of (node_of net s.node.0) k is
      → AreFirstTasks net (nodes_of steps) (k + 1) (tasks ++ record { node = s.node; inputs = is } ∷ []) (sources ++ source ∷ [])
  more_tasks k s tasks sources is source at b inputs_are source_is =
      let order = nodes_of steps in
      let st = are.each k s at in
      let t : Step = record { node = s.node; inputs = is } in
      let here : slice_get order k ≡ Some s.node = node_at steps k s at in
      let next : suc k ≡ k + 1 = omega arith in
      let n1 = b.count in
      let n2 = b.told_count in
      let a1 : AreSourced order k (heads (ways_at net s.node.0)) is =
      subst (λ c. AreSourced order k (heads c) is) (sym (ap ways_above st.cone))
      (subst (AreSourced order k (heads (ways (grow (cone_of net) st.node.inputs)))) (sym inputs_are)
      (inputs_sourced net order k sources b.told_count b.own st.node.inputs s.inputs st.fed)) in
      let a2 : AreSourced order (suc k) (head_of (ways_to net s.node.0) ∷ []) (source ∷ []) =
      subst (λ o. AreSourced order (suc k) (head_of (ways_to net s.node.0) ∷ []) (o ∷ [])) (sym (source_is ∙ ap (λ n. source_of n k is) st.there))
      (own_sourced net order st.node k s.node is here st.there st.cone a1) in
      record {
        nodes = nodes_more tasks t ∙ ap (λ l. l ++ s.node ∷ []) b.nodes ∙ sym (take_more order k s.node here) ∙ ap (λ j. take j order) next;
        count = longer tasks t ∙ ap suc n1 ∙ next;
        each = λ j u e. elim (last_or tasks t j u e) [
          | inl f ↦ b.each j u f
          | inr p ↦ subst (λ v. AreSourced order j (heads (ways_at net v.node.0)) v.inputs) (sym p.1)
              (subst (λ i. AreSourced order i (heads (ways_at net s.node.0)) is) (sym (p.0 ∙ n1)) a1)
        ];
        told_count = longer sources source ∙ ap suc n2 ∙ next;
        own = λ j x o e f. elim (last_or sources source j o f) [
          | inl g ↦ b.own j x o e g
          | inr p ↦
              let jk : j ≡ k = p.0 ∙ n2 in
              let same : slice_get order k ≡ Some x = subst (λ i. slice_get order i ≡ Some x) jk e in
              let xs : s.node ≡ x = (let q : Some s.node ≡ Some x = sym here ∙ same in cc) in
              subst (λ v. AreSourced order (suc j) (head_of (ways_to net x.0) ∷ []) (v ∷ [])) (sym p.1)
              (subst (λ i. AreSourced order (suc i) (head_of (ways_to net x.0) ∷ []) (source ∷ [])) (sym jk)
              (subst (λ y. AreSourced order (suc k) (head_of (ways_to net y.0) ∷ []) (source ∷ [])) xs a2))
        ];
      }

  pub all_tasks : (k : ℕ) (tasks : List Step) (sources : List (Option ℕ)) → length (nodes_of steps) ≤ k → AreFirstTasks net (nodes_of steps) k tasks sources → AreTasks net (nodes_of steps) tasks sources
  all_tasks k tasks sources l b = record { nodes = b.nodes ∙ take_whole (nodes_of steps) k l; each = b.each; own = b.own }
