-- The part of an update that is its dataset itself.
use Rattle.std.proofs.Common.{◌≡◌, ℕ, List, [], ◌∷◌, ◌++◌, append-nil, None, Some, sym, subst, ◌∙◌, ap}
use Rattle.std.proofs.lemmas.List.{map-append}
use Rattle.std.proofs.lemmas.List.Elements.{All-head, All-push}
use Rattle.std.specs.List.{All}
use Rattle.viz_base.specs.declared.node.NodeId.{NodeId}
use Rattle.viz_dataset.specs.declared.dataset.Dataset.{Dataset}
use Rattle.viz_kept.specs.True.{AreMadeIn, IsMadeIn, IsNodePart}
use Rattle.viz_kept.specs.Whole.{IsWholePart, whole_request}
use Rattle.viz_network.specs.Cone.{cone_of}
use Rattle.viz_network.specs.Network.{Network}
use Rattle.viz_parts.specs.declared.request.Request.{Request}
use Rattle.viz_parts.specs.declared.stored.Key.{Key}
use Rattle.viz_parts.specs.declared.stored.Stored.{Stored}
use Rattle.viz_plan_meaning.specs.Networks.{head_of, ways_to}
use Rattle.viz_plan.specs.Published.{keys_of}
use Rattle.viz_executive.specs.Produced.{IsOnly, all_keys}
use Rattle.viz_executive.specs.Steps.Carrying.{IsTakenOut}
use Rattle.viz_executive.specs.Steps.Grounds.{GroundData, IsReached}
use Rattle.viz_executive.specs.Steps.Tasks.{IsTaskItem}
use Rattle.viz_executive.proofs.PlanLemmas.{back, front}

abbrev key : Stored → Key
key s = s.key

-- ---- taking it out

pub none_taken : (g : GroundData) (made left : List Stored) → made ≡ left
    → All (IsTaskItem g.sites.net) made → IsTakenOut g made left None
none_taken g made left e h = record {
  keys = append-nil (keys_of left) ∙ ap keys_of (sym e);
  items = subst (All (IsTaskItem g.sites.net)) e h;
  key = tt;
}

pub one_taken : (g : GroundData) (made left : List Stored) (item : Stored) (place : ℕ)
    (node : NodeId) → made ≡ left ++ item ∷ [] → All (IsTaskItem g.sites.net) made
    → IsReached g place node → item.key.node ≡ node
    → IsTakenOut g made left (Some item.key)
one_taken g made left item place node e h r same =
    let Is = IsTaskItem g.sites.net in
    let all = subst (All Is) e h in
    let last = All-head Is item [] (back Is left (item ∷ []) all) in
    record {
      keys = sym (ap keys_of e ∙ map-append key left (item ∷ []));
      items = front Is left (item ∷ []) all;
      key = record {
        stamp = last.stamp;
        reached = subst (λ (n : NodeId). head_of (ways_to g.sites.net g.sink) ≡ Some n.0)
            (sym same) r.reached;
      };
    }

-- ---- putting it behind the others

pub keys_more : (made all : List Stored) (item : Stored) → all ≡ made ++ item ∷ []
    → keys_of all ≡ all_keys made (Some item.key)
keys_more made all item e = ap keys_of e ∙ map-append key made (item ∷ [])

pub made_more : (net : Network) (made all : List Stored) (item : Stored) (whole : Dataset)
    (request : Request) → all ≡ made ++ item ∷ [] → request ≡ whole_request whole
    → IsWholePart whole request item.part → AreMadeIn net made
    → IsOnly net whole (Some item.key) → AreMadeIn net all
made_more net made all item whole request e is w m o = record {
  each = subst (All (IsMadeIn net)) (sym e)
      (All-push (IsMadeIn net) made item m.each
      (record {
        stamp = o.stamp;
        part = subst
            (λ (r : Request). IsNodePart (cone_of net item.key.node.0) r item.part)
            (is ∙ sym o.all) (w.each (cone_of net item.key.node.0) o.given);
      }));
}
