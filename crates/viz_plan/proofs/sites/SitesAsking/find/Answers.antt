use Rattle.std.proofs.Common.{◌≡◌, find, sym, ap, ◌∙◌}
use Rattle.viz_requests.specs.Serving.{serves}
use Rattle.viz_plan.specs.Sites.{known_in}
use Rattle.viz_plan.proofs.SiteLemmas.{find_if_some, find_none}
use Rattle.viz_plan.proofs.sites.SitesAsking.find.Goals as goal

pub returns-clause-some : goal.returns-clause-some
returns-clause-some c =
    let w = c.args.request.now in
    find_if_some (known_in c.args.self.now) c.args.node.0 c.site_at-site.result.now w c.first_serving.result c.site_at-site.ensures.site
    (sym (c.first_serving.ensures ∙ ap (find (λ r. serves r w)) c.deref.ensures.value))

pub returns-clause-none : goal.returns-clause-none
returns-clause-none c = λ none.
    let w = c.args.request.now in
    find_none (known_in c.args.self.now) c.args.node.0 c.site_at-site.result.now w c.site_at-site.ensures.site
    (sym (c.first_serving.ensures ∙ ap (find (λ r. serves r w)) c.deref.ensures.value) ∙ none)
