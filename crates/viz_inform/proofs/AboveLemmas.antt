-- Marks that are passed on from a sink tell all that lies upstream of it.
use Rattle.std.proofs.Common.{◌≡◌, ℕ, zero, suc, ◌+◌, ◌<◌, ◌≤◌, ◌⊎◌, inl, inr, ⊎_elim, Bool, true, false, true≢false, nat_eq, ◌||◌, List, [], ◌∷◌, length, replicate, slice_get, Option, None, Some, refl, sym, ap, subst, ◌∙◌, arith}
use Rattle.std.specs.Prelude.{slice_set}
use Rattle.std.proofs.lemmas.Bool.{or_cases, or_left, or_right, eqb-true, eq-eqb, cases_lt}
use Rattle.std.proofs.lemmas.Option.{slice_get_within}
use Rattle.viz_base.specs.declared.node.NodeId.{NodeId}
use Rattle.viz_network.specs.declared.node.Node.{Node}
use Rattle.viz_network.specs.declared.steps.Step.{Step}
use Rattle.viz_network.specs.Network.{Network}
use Rattle.viz_network.specs.Cone.{Cone, Tree, grow, port, joined, either, has_node, cone_of}
use Rattle.viz_network.specs.Step.{nodes_of, AreFed, IsStepOf, AreSteps}
use Rattle.viz_network.proofs.TaleLemmas.{node_id}
use Rattle.viz_inform.proofs.TableLemmas.{step_node}
use Rattle.viz_inform.specs.Above.{marked, all_marked, AreBelow, IsAt, LiesAbove, IsLeft, AreMarks}

-- ---- marks

set_cases : (xs : List Bool) (p j : ℕ) → slice_get (slice_set xs p true) j ≡ Some true → (slice_get xs j ≡ Some true) ⊎ (j ≡ p)
set_cases [] p j h = inl h
set_cases (x ∷ xs) zero zero h = inr refl
set_cases (x ∷ xs) zero (suc j) h = inl h
set_cases (x ∷ xs) (suc p) zero h = inl h
set_cases (x ∷ xs) (suc p) (suc j) h = ⊎_elim inl (λ e. inr (ap suc e)) (set_cases xs p j h)

set_keeps : (xs : List Bool) (p j : ℕ) → slice_get xs j ≡ Some true → slice_get (slice_set xs p true) j ≡ Some true
set_keeps [] p j h = h
set_keeps (x ∷ xs) zero zero h = refl
set_keeps (x ∷ xs) zero (suc j) h = h
set_keeps (x ∷ xs) (suc p) zero h = h
set_keeps (x ∷ xs) (suc p) (suc j) h = set_keeps xs p j h

pub set_new : (xs : List Bool) (p : ℕ) → p < length xs → slice_get (slice_set xs p true) p ≡ Some true
set_new [] p l = let bad : ⊥ = omega (arith, l) in absurd bad
set_new (x ∷ xs) zero l = refl
set_new (x ∷ xs) (suc p) l = set_new xs p (omega (arith, l))

pub set_length : (xs : List Bool) (p : ℕ) → length (slice_set xs p true) ≡ length xs
set_length [] p = refl
set_length (x ∷ xs) zero = refl
set_length (x ∷ xs) (suc p) = ap suc (set_length xs p)

marked_length : (marks : List Bool) (input : Option ℕ) → length (marked marks input) ≡ length marks
marked_length marks None = refl
marked_length marks (Some p) = set_length marks p

all_length : (marks : List Bool) (inputs : List (Option ℕ)) → length (all_marked marks inputs) ≡ length marks
all_length marks [] = refl
all_length marks (i ∷ inputs) = all_length (marked marks i) inputs ∙ marked_length marks i

marked_keeps : (marks : List Bool) (input : Option ℕ) (j : ℕ) → slice_get marks j ≡ Some true → slice_get (marked marks input) j ≡ Some true
marked_keeps marks None j h = h
marked_keeps marks (Some p) j h = set_keeps marks p j h

all_keeps : (marks : List Bool) (inputs : List (Option ℕ)) (j : ℕ) → slice_get marks j ≡ Some true → slice_get (all_marked marks inputs) j ≡ Some true
all_keeps marks [] j h = h
all_keeps marks (i ∷ inputs) j h = all_keeps (marked marks i) inputs j (marked_keeps marks i j h)

all_new : (marks : List Bool) (inputs : List (Option ℕ)) (i p : ℕ) → slice_get inputs i ≡ Some (Some p) → p < length marks → slice_get (all_marked marks inputs) p ≡ Some true
all_new marks [] i p at l = let bad : ⊥ = cc in absurd bad
all_new marks (input ∷ inputs) zero p at l =
    let is : input ≡ Some p = cc in
    all_keeps (marked marks input) inputs p (subst (λ o. slice_get (marked marks o) p ≡ Some true) (sym is) (set_new marks p l))
all_new marks (input ∷ inputs) (suc i) p at l = all_new (marked marks input) inputs i p at (omega (arith, l, marked_length marks input))

-- a mark is an old one, or that of a place that feeds a port
all_cases : (marks : List Bool) (inputs : List (Option ℕ)) (j : ℕ) → slice_get (all_marked marks inputs) j ≡ Some true → (slice_get marks j ≡ Some true) ⊎ ((i : ℕ) × (slice_get inputs i ≡ Some (Some j)))
all_cases marks [] j h = inl h
all_cases marks (None ∷ inputs) j h = ⊎_elim inl (λ r. inr (suc r.0, r.1)) (all_cases marks inputs j h)
all_cases marks (Some p ∷ inputs) j h =
    ⊎_elim (λ old. ⊎_elim inl (λ (e : j ≡ p). inr (0, ap (λ q. Some (Some q)) (sym e))) (set_cases marks p j old)) (λ r. inr (suc r.0, r.1)) (all_cases (slice_set marks p true) inputs j h)

-- ---- steps

abbrev own : ℕ → Node → Bool
own x n = nat_eq x n.id.0

-- a port adds its own tree
port_adds : (x : ℕ) (t : Option Tree) (c : Cone) → joined either false (own x) (port t c) ≡ (has_node x t || joined either false (own x) c)
port_adds x None c = refl
port_adds x (Some t) c = refl

module _ (net : Network) (order : List NodeId) where
  -- node x lies above a place that feeds a port
  abbrev pub Feeds : ℕ → List (Option ℕ) → Type 0
  Feeds x places = (i p : ℕ) × (id : NodeId) × (slice_get places i ≡ Some (Some p)) × (slice_get order p ≡ Some id) × (has_node x (cone_of net id.0) ≡ true)

  later : (x : ℕ) (o : Option ℕ) (places : List (Option ℕ)) → Feeds x places → Feeds x (o ∷ places)
  later x o places r = (suc r.0, r.1, r.2, r.3, r.4, r.5)

  ports_down : (x k : ℕ) (inputs : List (Option NodeId)) (places : List (Option ℕ)) → AreFed order k inputs places → joined either false (own x) (grow (cone_of net) inputs) ≡ true → Feeds x places
  ports_down x k [] [] f h = absurd (true≢false (sym h))
  ports_down x k [] (p ∷ places) f h = absurd f
  ports_down x k (None ∷ inputs) [] f h = absurd f
  ports_down x k (Some id ∷ inputs) [] f h = absurd f
  ports_down x k (None ∷ inputs) (None ∷ places) f h = later x None places (ports_down x k inputs places f h)
  ports_down x k (None ∷ inputs) (Some p ∷ places) f h = absurd f
  ports_down x k (Some id ∷ inputs) (None ∷ places) f h = absurd f
  ports_down x k (Some id ∷ inputs) (Some p ∷ places) f h =
      ⊎_elim (λ here. (0, p, id, refl, f.1, here)) (λ more. later x (Some p) places (ports_down x k inputs places f.2 more))
      (or_cases (has_node x (cone_of net id.0)) (joined either false (own x) (grow (cone_of net) inputs)) (sym (port_adds x (cone_of net id.0) (grow (cone_of net) inputs)) ∙ h))

  ports_up : (x k : ℕ) (inputs : List (Option NodeId)) (places : List (Option ℕ)) → AreFed order k inputs places → Feeds x places → joined either false (own x) (grow (cone_of net) inputs) ≡ true
  ports_up x k [] [] f r = let bad : None ≡ Some (Some r.1) = r.3 in let no : ⊥ = cc in absurd no
  ports_up x k [] (p ∷ places) f r = absurd f
  ports_up x k (None ∷ inputs) [] f r = absurd f
  ports_up x k (Some id ∷ inputs) [] f r = absurd f
  ports_up x k (None ∷ inputs) (None ∷ places) f (zero, p, id, at, there, h) = let no : ⊥ = cc in absurd no
  ports_up x k (None ∷ inputs) (None ∷ places) f (suc i, p, id, at, there, h) = ports_up x k inputs places f (i, p, id, at, there, h)
  ports_up x k (None ∷ inputs) (Some p ∷ places) f r = absurd f
  ports_up x k (Some id ∷ inputs) (None ∷ places) f r = absurd f
  ports_up x k (Some y ∷ inputs) (Some q ∷ places) f (zero, p, id, at, there, h) =
      let same : q ≡ p = cc in
      let both : Some y ≡ Some id = sym f.1 ∙ ap (slice_get order) same ∙ there in
      let one : y ≡ id = cc in
      port_adds x (cone_of net y.0) (grow (cone_of net) inputs)
      ∙ or_left (has_node x (cone_of net y.0)) (joined either false (own x) (grow (cone_of net) inputs)) (ap (λ z. has_node x (cone_of net z.0)) one ∙ h)
  ports_up x k (Some y ∷ inputs) (Some q ∷ places) f (suc i, p, id, at, there, h) =
      port_adds x (cone_of net y.0) (grow (cone_of net) inputs)
      ∙ or_right (has_node x (cone_of net y.0)) (joined either false (own x) (grow (cone_of net) inputs)) (ports_up x k inputs places f.2 (i, p, id, at, there, h))

  fed_below : (k : ℕ) (inputs : List (Option NodeId)) (places : List (Option ℕ)) (i p : ℕ) → AreFed order k inputs places → slice_get places i ≡ Some (Some p) → p < k
  fed_below k [] [] i p f at = let no : ⊥ = cc in absurd no
  fed_below k [] (q ∷ places) i p f at = absurd f
  fed_below k (None ∷ inputs) [] i p f at = absurd f
  fed_below k (Some id ∷ inputs) [] i p f at = absurd f
  fed_below k (None ∷ inputs) (None ∷ places) zero p f at = let no : ⊥ = cc in absurd no
  fed_below k (None ∷ inputs) (None ∷ places) (suc i) p f at = fed_below k inputs places i p f at
  fed_below k (None ∷ inputs) (Some q ∷ places) i p f at = absurd f
  fed_below k (Some id ∷ inputs) (None ∷ places) i p f at = absurd f
  fed_below k (Some id ∷ inputs) (Some q ∷ places) zero p f at = let same : q ≡ p = cc in subst (λ z. z < k) same f.0
  fed_below k (Some id ∷ inputs) (Some q ∷ places) (suc i) p f at = fed_below k inputs places i p f.2 at

module _ (net : Network) (steps : List Step) (good : AreSteps net steps) (k : ℕ) (s : Step) (at : slice_get steps k ≡ Some s) where
  abbrev step : IsStepOf net (nodes_of steps) k s
  step = good.each k s at

  cone_is : (x : ℕ) → has_node x (cone_of net s.node.0) ≡ (nat_eq x step.node.id.0 || joined either false (own x) (grow (cone_of net) step.node.inputs))
  cone_is x = ap (has_node x) step.cone

  -- what lies above a step is its node, or lies above what feeds it
  step_down : (x : ℕ) → has_node x (cone_of net s.node.0) ≡ true → (x ≡ s.node.0) ⊎ Feeds net (nodes_of steps) x s.inputs
  step_down x h =
      ⊎_elim (λ here. inl (eqb-true x step.node.id.0 here ∙ node_id net s.node.0 step.node step.there)) (λ more. inr (ports_down net (nodes_of steps) x k step.node.inputs s.inputs step.fed more))
      (or_cases (nat_eq x step.node.id.0) (joined either false (own x) (grow (cone_of net) step.node.inputs)) (sym (cone_is x) ∙ h))

  step_here : (x : ℕ) → x ≡ s.node.0 → has_node x (cone_of net s.node.0) ≡ true
  step_here x is =
      cone_is x
      ∙ or_left (nat_eq x step.node.id.0) (joined either false (own x) (grow (cone_of net) step.node.inputs)) (eq-eqb x step.node.id.0 (is ∙ sym (node_id net s.node.0 step.node step.there)))

  step_up : (x : ℕ) → Feeds net (nodes_of steps) x s.inputs → has_node x (cone_of net s.node.0) ≡ true
  step_up x r =
      cone_is x
      ∙ or_right (nat_eq x step.node.id.0) (joined either false (own x) (grow (cone_of net) step.node.inputs)) (ports_up net (nodes_of steps) x k step.node.inputs s.inputs step.fed r)

  pub inputs_below : AreBelow k s.inputs
  inputs_below i p there = fed_below net (nodes_of steps) k step.node.inputs s.inputs i p step.fed there

  same_node : (id : NodeId) → slice_get (nodes_of steps) k ≡ Some id → id ≡ s.node
  same_node id there = let both : Some id ≡ Some s.node = sym there ∙ step_node steps k s at in cc

  module _ (sink : ℕ) (marks : List Bool) (known : AreMarks net steps sink (k + 1) marks) where
    -- the step has no mark
    pub not_passed : (slice_get marks k ≡ Some true → ⊥) → AreMarks net steps sink k marks
    not_passed bare = record { count = known.count; above = λ x. (λ a. forth x ((known.above x).0 a), λ l. (known.above x).1 (back x l)) }
      where
        forth : (x : ℕ) → IsLeft net steps marks (k + 1) x → IsLeft net steps marks k x
        forth x (j, m, inl w) = (j, m, inl (omega (arith, w.0), w.1))
        forth x (j, m, inr w) =
            ⊎_elim (λ (l : j < k). (j, m, inr (l, w.1))) (λ (g : k ≤ j). absurd (bare (subst (λ i. slice_get marks i ≡ Some true) (let e : j ≡ k = omega (arith, g, w.0) in e) m))) (cases_lt j k)

        back : (x : ℕ) → IsLeft net steps marks k x → IsLeft net steps marks (k + 1) x
        back x (j, m, inl w) =
            ⊎_elim (λ (l : k < j). (j, m, inl (omega (arith, l), w.1))) (λ (g : j ≤ k). absurd (bare (subst (λ i. slice_get marks i ≡ Some true) (let e : j ≡ k = omega (arith, g, w.0) in e) m))) (cases_lt k j)
        back x (j, m, inr w) = (j, m, inr (omega (arith, w.0), w.1))

    -- the step has a mark, which is passed on
    pub passed : slice_get marks k ≡ Some true → AreMarks net steps sink k (all_marked marks s.inputs)
    passed mine = record { count = all_length marks s.inputs ∙ known.count; above = λ x. (λ a. forth x ((known.above x).0 a), λ l. (known.above x).1 (back x l)) }
      where
        new : List Bool
        new = all_marked marks s.inputs

        keep : (j : ℕ) → slice_get marks j ≡ Some true → slice_get new j ≡ Some true
        keep j m = all_keeps marks s.inputs j m

        here : (x : ℕ) → (x ≡ s.node.0) ⊎ Feeds net (nodes_of steps) x s.inputs → IsLeft net steps new k x
        here x (inl is) = (k, keep k mine, inl (omega arith, (s.node, step_node steps k s at, is)))
        here x (inr (i, p, id, there, found, h)) =
            let below = inputs_below i p there in
            let within = slice_get_within marks k true mine in
            (p, all_new marks s.inputs i p there (omega (arith, below, within)), inr (below, (id, found, h)))

        forth : (x : ℕ) → IsLeft net steps marks (k + 1) x → IsLeft net steps new k x
        forth x (j, m, inl w) = (j, keep j m, inl (omega (arith, w.0), w.1))
        forth x (j, m, inr (l, (id, found, h))) =
            ⊎_elim (λ (low : j < k). (j, keep j m, inr (low, (id, found, h))))
            (λ (g : k ≤ j).
            let e : j ≡ k = omega (arith, g, l) in
            let is : id ≡ s.node = same_node id (subst (λ i. slice_get (nodes_of steps) i ≡ Some id) e found) in
            here x (step_down x (subst (λ (z : NodeId). has_node x (cone_of net z.0) ≡ true) is h)))
            (cases_lt j k)

        whole : (x : ℕ) → has_node x (cone_of net s.node.0) ≡ true → IsLeft net steps marks (k + 1) x
        whole x h = (k, mine, inr (omega arith, (s.node, step_node steps k s at, h)))

        old : (x j : ℕ) → slice_get marks j ≡ Some true → ((k ≤ j) × IsAt steps j x) ⊎ ((j < k) × LiesAbove net steps j x) → IsLeft net steps marks (k + 1) x
        old x j m (inr w) = (j, m, inr (omega (arith, w.0), w.1))
        old x j m (inl (g, (id, found, is))) =
            ⊎_elim (λ (l : k < j). (j, m, inl (omega (arith, l), (id, found, is))))
            (λ (low : j ≤ k).
            let e : j ≡ k = omega (arith, low, g) in
            let one : id ≡ s.node = same_node id (subst (λ i. slice_get (nodes_of steps) i ≡ Some id) e found) in
            whole x (step_here x (is ∙ ap (λ (z : NodeId). z.0) one)))
            (cases_lt k j)

        fresh : (x j i : ℕ) → slice_get s.inputs i ≡ Some (Some j) → ((k ≤ j) × IsAt steps j x) ⊎ ((j < k) × LiesAbove net steps j x) → IsLeft net steps marks (k + 1) x
        fresh x j i there (inl w) = let bad : ⊥ = omega (arith, w.0, inputs_below i j there) in absurd bad
        fresh x j i there (inr (l, (id, found, h))) = whole x (step_up x (i, j, id, there, found, h))

        back : (x : ℕ) → IsLeft net steps new k x → IsLeft net steps marks (k + 1) x
        back x (j, m, w) = ⊎_elim (λ (o : slice_get marks j ≡ Some true). old x j o w) (λ r. fresh x j r.0 r.1 w) (all_cases marks s.inputs j m)

-- the first mark, at the sink
pub first_mark : (net : Network) (steps : List Step) (sink : ℕ) (marks : List Bool) → length marks ≡ length steps → sink < length steps → ((j : ℕ) → slice_get marks j ≡ Some true → ⊥)
    → AreMarks net steps sink (sink + 1) (slice_set marks sink true)
first_mark net steps sink marks same within none = record { count = set_length marks sink ∙ same; above = λ x. (λ a. (sink, set_new marks sink (omega (arith, same, within)), inr (omega arith, a)), back x) }
  where
    back : (x : ℕ) → IsLeft net steps (slice_set marks sink true) (sink + 1) x → LiesAbove net steps sink x
    back x (j, m, w) = ⊎_elim (λ (old : slice_get marks j ≡ Some true). absurd (none j old)) (λ (e : j ≡ sink). here e w) (set_cases marks sink j m)
      where
        here : j ≡ sink → ((sink + 1 ≤ j) × IsAt steps j x) ⊎ ((j < sink + 1) × LiesAbove net steps j x) → LiesAbove net steps sink x
        here e (inl w) = let bad : ⊥ = omega (arith, e, w.0) in absurd bad
        here e (inr w) = subst (λ i. LiesAbove net steps i x) e w.1

-- no mark
pub unmarked : (n j : ℕ) → slice_get (replicate n false) j ≡ Some true → ⊥
unmarked zero j h = let bad : ⊥ = cc in bad
unmarked (suc n) zero h = let bad : false ≡ true = cc in true≢false (sym bad)
unmarked (suc n) (suc j) h = unmarked n j h
