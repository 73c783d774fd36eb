-- One task, by what is known of its node.
use Rattle.std.proofs.Common.{◌≡◌, ℕ, List, Option, None, Some, refl, sym, subst, ◌∙◌, ap}
use Rattle.std.specs.List.{Contains}
use Rattle.std.specs.Option.{option_map}
use Rattle.viz_network.specs.Cone.{Tree, above, cone_of, grow}
use Rattle.viz_network.specs.Network.{Network, node_of}
use Rattle.viz_network.specs.declared.node.Node.{Node}
use Rattle.viz_node_parts.specs.Made.{MakesPart}
use Rattle.viz_node_parts.specs.Taken.{TakesParts}
use Rattle.viz_parts.specs.declared.request.Part.{Part}
use Rattle.viz_parts.specs.declared.request.Request.{Request}
use Rattle.viz_parts.specs.declared.stored.Key.{Key}
use Rattle.viz_plan.specs.Sites.{IsSite}
use Rattle.viz_plan.specs.declared.sites.Site.{Site}
use Rattle.viz_plan_meaning.specs.Known.{Known}
use Rattle.viz_plan_meaning.specs.Laws.{plan_of}
use Rattle.viz_plan_truth.specs.Truth.{IsTaskPart}
use Rattle.viz_task_parts.specs.Tasks.{HasParts, IsUpdate, TasksMake, TasksTake}
use Rattle.viz_plan.specs.Published.{need_of}

-- the node at the foot of a cone is the network's
node_of_tree : (net : Network) (id : ℕ) (t : Tree) → cone_of net id ≡ Some t
    → node_of net id ≡ Some t.0
node_of_tree net id t e = by (node_of net id) refl e
  where
    by : (o : Option Node) → node_of net id ≡ o
        → option_map (λ (n : Node). (n, grow (above 255 net) n.inputs)) o ≡ Some t
        → node_of net id ≡ Some t.0
    by None there q = let bad : ⊥ = cc in absurd bad
    by (Some n) there q =
        let same : (n, grow (above 255 net) n.inputs) ≡ t = cc in
        there ∙ ap (λ (z : Tree). Some z.0) same

inner : (a b : Node) → Some a ≡ Some b → a ≡ b
inner a b e = cc

module _ (k : Known) (sink : ℕ) (rs : List Request) (key : Key) (n : Node) (site : Site)
    (parts : List (Option Part)) (u : IsUpdate k sink rs)
    (planned : Contains (plan_of k sink rs) (need_of key)) (s : IsSite k key.node.0 site)
    (there : node_of k.net key.node.0 ≡ Some n) (has : HasParts k (need_of key) parts) where
  same_node : s.node ≡ n
  same_node =
      inner s.node n
      (sym (node_of_tree k.net key.node.0 (s.node, s.ports) s.cone) ∙ there)

  pub taken : TasksTake → TakesParts n.settings site.whole key.request parts
  taken law =
      let h = law k sink rs (need_of key) s.node s.ports parts u
      (record { planned = planned; is = s.cone }) has in
      subst (λ (m : Node). TakesParts m.settings site.whole key.request parts) same_node
      (subst (λ w. TakesParts s.node.settings w key.request parts) (sym s.whole) h)

  pub made : TasksMake → (part : Part)
      → MakesPart n.settings n.file site.whole key.request parts part
      → IsTaskPart k.net key.node.0 key.request part
  made law part m =
      law k sink rs (need_of key) s.node s.ports parts part u
      (record { planned = planned; is = s.cone }) has
      (subst (λ w. MakesPart s.node.settings s.node.file w key.request parts part) s.whole
      (subst (λ (x : Node). MakesPart x.settings x.file site.whole key.request parts part)
      (sym same_node) m))
