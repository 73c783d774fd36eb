-- What a node gives that one source feeds.
use Rattle.std.proofs.Common.{◌≡◌, ◌⊎◌, ℕ, zero, suc, None, Some, Result, Ok, Err, refl, ap, subst, ◌∙◌, inl, inr}
use Rattle.viz_network.specs.declared.fault.Cause.{Cause}
use Rattle.viz_network.specs.declared.fault.Fault.{Fault}
use Rattle.viz_network.specs.declared.fault.Stop.{Stop}
use Rattle.viz_network.specs.declared.fault.Stop.TheVariants as stop
use Rattle.viz_network.specs.declared.node.Node.{Node}
use Rattle.viz_node_meaning.specs.Fold.{at_node, filled, joined, IsMade, AreGiven, IsGiven}
use Rattle.viz_node_meaning.specs.Rules.{Inputs, NodeRule}
use Rattle.viz_node_meaning.specs.Scratch.{Answers}
use Rattle.viz_node_rules.specs.Makes.{Makes}
use Rattle.viz_node_rules.specs.declared.stop.OwnStop.{OwnStop}
use Rattle.viz_node_rules.specs.declared.stop.OwnStop.TheVariants as own
use Rattle.viz_once.specs.Steps.Nodes.{empties, tree_of, nothing, fed_by, stop_at}

-- ---- answers

-- what follows of each result follows of the answer
pub answers_more : {X : Type 0} (a b : Result X Fault → Type 0) → ((r : Result X Fault) → a r → b r) → (result : Result X Stop) → Answers a result → Answers b result
answers_more a b f (Ok x) h = f (Ok x) h
answers_more a b f (Err (stop.Fault fault)) h = f (Err fault) h
answers_more a b f (Err stop.Memory) h = tt

module _ {X : Type 0} (rule : NodeRule X) where
  -- a node's own stop is its stop in the evaluation
  pub own_stopped : (node : Node) (inputs : Inputs X) (s : OwnStop) → Makes (rule node inputs) (Err s) → Answers (IsMade rule node (Ok inputs)) (Err (stop_at node.id s))
  own_stopped node inputs (own.Cause cause) h = (Err cause, h, refl)
  own_stopped node inputs own.Memory h = tt

  -- ---- empty ports

  empties_given : (n : ℕ) → AreGiven rule (empties n) (Ok (nothing n))
  empties_given zero = refl
  empties_given (suc n) = (Ok (nothing n), empties_given n, refl)

  empties_one : (n : ℕ) (all : Result (Inputs X) Fault) → AreGiven rule (empties n) all → all ≡ Ok (nothing n)
  empties_one zero all given = given
  empties_one (suc n) all given = given.2 ∙ ap (joined (Ok None)) (empties_one n given.0 given.1)

  module _ (src node : Node) where
    -- ---- both nodes

    -- the source gives this, and the node makes that of it
    pub through : (x : X) (value : Result X Fault) → IsMade rule src (Ok (nothing 8)) (Ok x) → IsMade rule node (Ok (fed_by x)) value → IsGiven rule (Some (tree_of src node)) value
    through x value first second =
        (Ok (fed_by x), (Ok (nothing 8), Ok x, Ok (nothing 7), empties_given 8, first, empties_given 7, refl), second)

    -- the source gives nothing
    pub stopped : (fault : Fault) → IsMade rule src (Ok (nothing 8)) (Err fault) → IsGiven rule (Some (tree_of src node)) (Err fault)
    stopped fault first =
        (Err fault, (Ok (nothing 8), Err fault, Ok (nothing 7), empties_given 8, first, empties_given 7, refl), refl)

    pub through_answers : (x : X) (result : Result X Stop) → IsMade rule src (Ok (nothing 8)) (Ok x) → Answers (IsMade rule node (Ok (fed_by x))) result
        → Answers (IsGiven rule (Some (tree_of src node))) result
    through_answers x result first = answers_more (IsMade rule node (Ok (fed_by x))) (IsGiven rule (Some (tree_of src node))) (λ v h. through x v first h) result

    pub stopped_answers : (s : Stop) → Answers (IsMade rule src (Ok (nothing 8))) (Err s) → Answers (IsGiven rule (Some (tree_of src node))) (Err s)
    stopped_answers (stop.Fault fault) h = stopped fault h
    stopped_answers stop.Memory h = tt

    -- ---- whose fault it is

    -- the source gave nothing, or gave this and the node made that of it
    abbrev Comes : Result X Fault → Type 0
    Comes value = ((cause : Cause) × (value ≡ Err (record { node = src.id; cause = cause })))
        ⊎ ((own : Result X Cause) × (value ≡ at_node node own))

    by_source : (own : Result X Cause) → (v : Result X Fault) → v ≡ at_node src own → (rest inputs : Result (Inputs X) Fault)
        → rest ≡ Ok (nothing 7) → inputs ≡ joined (filled v) rest → (value : Result X Fault) → IsMade rule node inputs value → Comes value
    by_source (Err cause) v is rest inputs rest_is inputs_is value made =
        let fault : Fault = record { node = src.id; cause = cause } in
        let all : inputs ≡ Err fault = inputs_is ∙ ap (λ (w : Result X Fault). joined (filled w) rest) is in
        inl (cause, subst (λ (i : Result (Inputs X) Fault). IsMade rule node i value) all made)
    by_source (Ok x) v is rest inputs rest_is inputs_is value made =
        let all : inputs ≡ Ok (fed_by x) = inputs_is ∙ ap (λ (w : Result X Fault). joined (filled w) rest) is ∙ ap (joined (Ok (Some x))) rest_is in
        let m = subst (λ (i : Result (Inputs X) Fault). IsMade rule node i value) all made in
        inr (m.0, m.2)

    comes : (value : Result X Fault) → IsGiven rule (Some (tree_of src node)) value → Comes value
    comes value g =
        let none : g.1.0 ≡ Ok (nothing 8) = empties_one 8 g.1.0 g.1.3 in
        let m = subst (λ (i : Result (Inputs X) Fault). IsMade rule src i g.1.1) none g.1.4 in
        by_source m.0 g.1.1 m.2 g.1.2 g.0 (empties_one 7 g.1.2 g.1.5) g.1.6 value g.2

    fault_at : (fault : Fault) (own : Result X Cause) → (let r : Result X Fault = Err fault in r) ≡ at_node node own → fault.node ≡ node.id
    fault_at fault (Ok x) e = absurd (let bad : (let r : Result X Fault = Err fault in r) ≡ Ok x = e in cc)
    fault_at fault (Err cause) e =
        let known : Fault = record { node = node.id; cause = cause } in
        let same : fault ≡ known = (let r : (let r : Result X Fault = Err fault in r) ≡ Err known = e in cc) in
        ap (λ (f : Fault). f.node) same

    -- a fault is one of the two nodes'
    pub of_either : (fault : Fault) → IsGiven rule (Some (tree_of src node)) (Err fault) → (fault.node ≡ src.id) ⊎ (fault.node ≡ node.id)
    of_either fault g = elim (comes (Err fault) g) [
      | inl first ↦
          let known : Fault = record { node = src.id; cause = first.0 } in
          let same : fault ≡ known = (let r : (let r : Result X Fault = Err fault in r) ≡ Err known = first.1 in cc) in
          inl (ap (λ (f : Fault). f.node) same)
      | inr own ↦ inr (fault_at fault own.0 own.1)
    ]
