use Rattle.std.proofs.Common.{Ok, sym, subst, ap, ◌∙◌}
use Rattle.viz_dataset.specs.declared.dataset.Dataset.TheVariants.{Mesh}
use Rattle.viz_node_meaning.specs.Scratch.{IsScratch}
use Rattle.viz_account.specs.Steps.Ground.{IsGround}
use Rattle.viz_account.proofs.SurfaceLemmas.{may_audit, is_audited}
use Rattle.viz_account.proofs.surface.counts_of.Goals as goal

pub audit_all-requires : goal.audit_all-requires
audit_all-requires c =
    let net = c.args._net.now in
    let id = c.args.node.0 in
    may_audit c.scratch_is_one.ensures.cones c.contours_are_closed.ensures.surface net id c.in-Some.whole c.sheets.result.now
    (subst (IsGround net id) c.in-Some.is c.requires.ground)
    (subst (λ d. IsScratch net id (Ok d)) (c.in-Mesh.is ∙ ap (λ s. Mesh s) (sym c.sheets.ensures.value)) c.requires.given)

pub returns : goal.returns
returns c =
    let net = c.args._net.now in
    let id = c.args.node.0 in
    record {
      value = is_audited c.scratch_is_one.ensures.cones net id c.in-Some.whole c.sheets.result.now c.in_ok-counts.counts
          (subst (IsGround net id) c.in-Some.is c.requires.ground)
          (subst (λ d. IsScratch net id (Ok d)) (c.in-Mesh.is ∙ ap (λ s. Mesh s) (sym c.sheets.ensures.value)) c.requires.given)
          c.in_ok-counts.ensures;
    }
