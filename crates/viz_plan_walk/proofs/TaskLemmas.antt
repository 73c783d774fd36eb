-- The cone of a step is that of its node.
use Rattle.std.proofs.Common.{◌≡◌, ℕ, zero, suc, ◌<◌, Bool, List, [], ◌∷◌, length, slice_get, Option, None, Some, refl, sym, ap, subst, ◌∙◌, arith}
use Rattle.std.proofs.lemmas.Option.{slice_get_within}
use Rattle.std.specs.Option.{option_map}
use Rattle.viz_base.specs.declared.node.NodeId.{NodeId}
use Rattle.viz_network.specs.declared.steps.Step.{Step}
use Rattle.viz_network.specs.Network.{Network}
use Rattle.viz_network.specs.Step.{nodes_of, AreSteps}
use Rattle.viz_plan_meaning.specs.Plan.{Upstream, none, empty, fed, heads, thin, all_needs, plan, nub, all_entries, used}
use Rattle.viz_plan_meaning.specs.Steps.Visits.{IsOne}
use Rattle.viz_plan_meaning.specs.Networks.{ways_at, ways_to, task_at, head_of, reached}
use Rattle.viz_plan_meaning.proofs.WriterLemmas.{sink_reaches}
use Rattle.viz_plan_meaning.proofs.NetworkLemmas.{step_at, node_stands, sink_stands}
use Rattle.viz_plan_walk.specs.Walk.{port, grow, above, to_step}
use Rattle.viz_plan_walk.specs.TaskSteps.{AreSourced, AreTasks}

count_nodes : (steps : List Step) → length (nodes_of steps) ≡ length steps
count_nodes [] = refl
count_nodes (s ∷ steps) = ap suc (count_nodes steps)

module _ (net : Network) (order : List NodeId) (up : ℕ → Option (ℕ × Upstream)) where
  -- ports that are fed by what their places have
  grow_is : (k : ℕ) (c : Upstream) (places : List (Option ℕ)) → AreSourced order k (heads c) places → IsOne (ways_at net) c
      → ((p : ℕ) (y : NodeId) → p < k → slice_get order p ≡ Some y → up p ≡ Some (y.0, ways_at net y.0))
      → grow up places ≡ c
  grow_is k none [] s o h = refl
  grow_is k none (p ∷ places) s o h = absurd s
  grow_is k (empty c) [] s o h = absurd s
  grow_is k (empty c) (None ∷ places) s o h = ap empty (grow_is k c places s o h)
  grow_is k (empty c) (Some p ∷ places) s o h = absurd s
  grow_is k (fed n own c) [] s o h = absurd s
  grow_is k (fed n own c) (None ∷ places) s o h = absurd s
  grow_is k (fed n own c) (Some p ∷ places) s o h =
      let a = s.0 in
      ap (λ t. port t (grow up places)) (h p a.node a.before a.there)
      ∙ ap (λ i. fed i (ways_at net i) (grow up places)) a.is
      ∙ ap (λ d. fed n d (grow up places)) (sym o.0)
      ∙ ap (fed n own) (grow_is k c places s.1 o.2 h)

module _ (net : Network) (steps : List Step) (are : AreSteps net steps) (tasks : List Step) (sources : List (Option ℕ)) (sourced : AreTasks net (nodes_of steps) tasks sources) where
  above_is : (f k : ℕ) (x : NodeId) → k < f → slice_get (nodes_of steps) k ≡ Some x → above f tasks k ≡ Some (x.0, ways_at net x.0)
  above_is zero k x l at = absurd (omega (arith, l))
  above_is (suc f) k x l at =
      let t = step_at tasks k x (subst (λ o. slice_get o k ≡ Some x) (sym sourced.nodes) at) in
      let s = subst (λ y. AreSourced (nodes_of steps) k (heads (ways_at net y.0)) t.0.inputs) t.2 (sourced.each k t.0 t.1) in
      let one = (node_stands net steps are (λ i. Unit {0}) (λ n j y a b c. tt) k x at).0 in
      ap (option_map (λ s. (s.node.0, grow (above f tasks) s.inputs))) t.1
      ∙ ap (λ y. Some (y.0, grow (above f tasks) t.0.inputs)) t.2
      ∙ ap (λ c. Some (x.0, c)) (grow_is net (nodes_of steps) (above f tasks) k (ways_at net x.0) t.0.inputs s one (λ p y m e. above_is f p y (omega (arith, l, m)) e))

  pub to_step_is : (k : ℕ) (x : NodeId) → slice_get (nodes_of steps) k ≡ Some x → to_step 256 tasks k ≡ task_at net x.0
  to_step_is k x at =
      let few = are.few in
      let within : k < length (nodes_of steps) = slice_get_within (nodes_of steps) k x at in
      let count : length (nodes_of steps) ≡ length steps = count_nodes steps in
      let l : k < 256 = omega (arith, few, within, count) in
      ap (λ t. port t none) (above_is 256 k x l at)

  pub task_is_one : (k : ℕ) (x : NodeId) → slice_get (nodes_of steps) k ≡ Some x → (cone : ℕ → Upstream) × IsOne cone (to_step 256 tasks k)
  task_is_one k x at =
      (ways_at net, subst (IsOne (ways_at net)) (sym (to_step_is k x at)) (refl, (node_stands net steps are (λ i. Unit {0}) (λ n j y a b c. tt) k x at).0, tt))

  -- requests to a node go to the step at the place that the table has
  pub reached_at : (place : ℕ) (sink : NodeId) (p : ℕ) → slice_get (nodes_of steps) place ≡ Some sink → slice_get sources place ≡ Some (Some p) → to_step 256 tasks p ≡ ways_to net sink.0
  reached_at place sink p at e = by (head_of (ways_to net sink.0)) refl (sourced.own place sink (Some p) at e)
    where
      by : (h : Option ℕ) → head_of (ways_to net sink.0) ≡ h → AreSourced (nodes_of steps) (suc place) (h ∷ []) (Some p ∷ []) → to_step 256 tasks p ≡ ways_to net sink.0
      by (Some id) q a =
          to_step_is p a.0.node a.0.there ∙ ap (task_at net) a.0.is ∙ sym (sink_reaches net steps are place sink at ∙ ap (reached net) q)
      by None q a = absurd a

  -- or nowhere
  pub nothing_at : (place : ℕ) (sink : NodeId) → slice_get (nodes_of steps) place ≡ Some sink → slice_get sources place ≡ Some None → ways_to net sink.0 ≡ empty none
  nothing_at place sink at e = by (head_of (ways_to net sink.0)) refl (sourced.own place sink None at e)
    where
      by : (h : Option ℕ) → head_of (ways_to net sink.0) ≡ h → AreSourced (nodes_of steps) (suc place) (h ∷ []) (None ∷ []) → ways_to net sink.0 ≡ empty none
      by (Some id) q a = absurd a
      by None q a = sink_reaches net steps are place sink at ∙ ap (reached net) q

  pub reached_is_one : (place : ℕ) (sink : NodeId) (p : ℕ) → slice_get (nodes_of steps) place ≡ Some sink → slice_get sources place ≡ Some (Some p) → (cone : ℕ → Upstream) × IsOne cone (to_step 256 tasks p)
  reached_is_one place sink p at e =
      (ways_at net, subst (IsOne (ways_at net)) (sym (reached_at place sink p at e)) (sink_stands net steps are (λ i. Unit {0}) (λ n j y a b c. tt) place sink at).0)

-- a port without a node needs nothing, and uses nothing
module _ {R P : Type 0} (serves same : R → R → Bool) (kept : ℕ → R → Option (R × P)) (widen asks : ℕ → R → R) where
  none_needed : (rs : List R) → all_needs kept widen asks (empty none) rs ≡ []
  none_needed [] = refl
  none_needed (r ∷ rs) = none_needed rs

  none_met : (rs : List R) → all_entries same kept widen asks (empty none) rs ≡ []
  none_met [] = refl
  none_met (r ∷ rs) = none_met rs

  pub no_plan : (c : Upstream) (rs : List R) → c ≡ empty none → [] ≡ plan serves kept widen asks c rs
  no_plan c rs e = sym (ap (λ d. plan serves kept widen asks d rs) e ∙ ap (thin serves []) (none_needed rs))

  pub none_used : (c : Upstream) (rs : List R) → c ≡ empty none → [] ≡ used same kept widen asks c rs
  none_used c rs e = sym (ap (λ d. used same kept widen asks d rs) e ∙ ap (nub same []) (none_met rs))
