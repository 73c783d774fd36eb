use Rattle.std.proofs.Common.{◌≡◌, [], Some, get_or, refl, sym, ap, ◌∙◌}
use Rattle.std.specs.Option.{option_copied}
use Rattle.std.proofs.lemmas.Option.{slice_get-get_or}
use Rattle.viz_network.specs.declared.steps.Step.{Step}
use Rattle.viz_network.specs.Cone.{stamp_of}
use Rattle.viz_network.specs.Step.{nodes_of}
use Rattle.viz_plan.specs.ByNode.{extent_shown, present_in}
use Rattle.viz_plan.specs.Sites.{first_extent}
use Rattle.viz_plan.specs.Told.{extent_told, known_with}
use Rattle.viz_plan.proofs.ByNodeLemmas.{extents_are, presents_are}
use Rattle.viz_plan.proofs.SiteLemmas.{site_is}
use Rattle.viz_plan.proofs.sites.site_of.Goals as goal

pub returns : goal.returns
returns c = λ x at told stored is_shown is_entries.
    let net = c.args.net.now in
    let steps = c.args.steps.now in
    let none : Step = record { node = record { 0 = 0 }; inputs = [] } in
    let step = get_or steps c.args.place none in
    let extents : extent_shown c.args.shown.now ≡ extent_told told = extents_are c.args.shown.now told is_shown in
    site_is (known_with net told stored) steps c.requires.steps c.args.place step c.in-Some.node.now _
    (slice_get-get_or steps c.args.place none c.requires.within)
    (sym c.node.ensures.value ∙ ap option_copied c.in-Some.is)
    refl
    (c.extent_shown-own.ensures ∙ ap (λ f. f c.in-Some.node.now.id.0) extents)
    (c.whole_of-whole.ensures ∙ ap (λ f. first_extent f (nodes_of steps) step.inputs) extents)
    (c.in_ok-kept.ensures ∙ ap (λ s. present_in s step.node.0 c.args.entries.now) (c.of.ensures.value ∙ ap (λ n. stamp_of n step.node.0) c.requires.stamps)
    ∙ presents_are (stamp_of net step.node.0) step.node.0 c.args.entries.now stored is_entries)
    x at
