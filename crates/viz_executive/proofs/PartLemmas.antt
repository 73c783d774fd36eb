-- Parts that are cut.
use Rattle.std.proofs.Common.{◌≡◌, ℕ, true, List, sym, subst, ◌∙◌, ap}
use Rattle.std.proofs.lemmas.List.Elements.{All-contains}
use Rattle.std.specs.List.{All}
use Rattle.viz_base.specs.declared.node.NodeId.{NodeId}
use Rattle.viz_network.specs.Cone.{cone_of}
use Rattle.viz_parts.specs.declared.request.Request.{Request}
use Rattle.viz_parts.specs.declared.stored.Stored.{Stored}
use Rattle.viz_plan.specs.Sites.{IsSite}
use Rattle.viz_plan.specs.declared.sites.Site.{Site}
use Rattle.viz_plan_law.specs.Cutting.{CanBeCut, IsExactPart, PartsOfKnownAreCut}
use Rattle.viz_plan_law.proofs.ConeLemmas.{foot_is}
use Rattle.viz_plan_meaning.specs.Known.{Known, asked_at, tree_asked, tree_widened, widened_at}
use Rattle.viz_requests.specs.Serving.{serves}
use Rattle.viz_requests.specs.Upstream.{Fits, asked, widened}
use Rattle.viz_executive.specs.Steps.Tables.{IsExactItem, IsFound}

pub widened_is : (k : Known) (id : ℕ) (site : Site) → IsSite k id site → (r : Request)
    → widened site.settings site.own r ≡ widened_at k id r
widened_is k id site s r =
    ap (λ st. widened st site.own r) s.settings ∙ ap (λ o. widened s.node.settings o r) s.own
    ∙ sym (ap (λ t. tree_widened k t r) s.cone)

pub asked_is : (k : Known) (id : ℕ) (site : Site) → IsSite k id site → (r : Request)
    → asked site.settings site.whole r ≡ asked_at k id r
asked_is k id site s r =
    ap (λ st. asked st site.whole r) s.settings ∙ ap (λ o. asked s.node.settings o r) s.whole
    ∙ sym (ap (λ t. tree_asked k t r) s.cone)

-- what is found for a request can be cut for it
pub cut_found : PartsOfKnownAreCut → (k : Known) (node : NodeId) (site : Site)
    → IsSite k node.0 site → (request : Request) → Fits site.own request → (items : List Stored)
    → All (IsExactItem k.net) items → (wanted : Request)
    → wanted ≡ widened site.settings site.own request → (found : Stored)
    → IsFound items node wanted found
    → CanBeCut (cone_of k.net node.0) found.key.request request found.part
cut_found law k node site s request fits items exact wanted is found f =
    let own = s.own ∙ ap k.extent (foot_is k.net node.0 (s.node, s.ports) s.cone) in
    let item = All-contains (IsExactItem k.net) items found exact f.among in
    law k node.0 found.key.request request found.part
    (subst (λ (n : NodeId). IsExactPart (cone_of k.net n.0) found.key.request found.part) f.of_node item.exact)
    (subst (λ o. Fits o request) own fits)
    (subst (λ w. serves found.key.request w ≡ true) (is ∙ widened_is k node.0 site s request) f.serving)
