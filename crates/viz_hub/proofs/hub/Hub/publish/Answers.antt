use Rattle.std.proofs.Common.{◌∙◌, count_by, sym, ap, subst}
use Rattle.viz_entries.specs.History.{network_of}
use Rattle.viz_history.specs.Publishing.{is_stale}
use Rattle.viz_hub.specs.Passes.{PassKnown, PinKnown}
use Rattle.viz_kept.specs.True.{AreMadeIn}
use Rattle.viz_hub.proofs.hub.Hub.publish.Goals as goal

pub publish_by-place-requires-clause-made : goal.publish_by-place-requires-clause-made
publish_by-place-requires-clause-made g c =
    subst (λ (p : PassKnown). AreMadeIn (network_of p.seen) c.args.made.now)
    (sym (c.place_of.ensures ∙ ap (λ (p : PinKnown). p.pass) c.pin.view_is)) c.requires.plan.by.parts

pub returns-clause-stale : goal.returns-clause-stale
returns-clause-stale g c =
    c.publish_by-place.ensures.stale ∙ ap (λ p. count_by (is_stale (network_of p.seen)) c.args.made.now) (sym c.pass_of.ensures)
