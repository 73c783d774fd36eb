use Rattle.std.proofs.Common.{◌≡◌, true, sym, ap, ◌∙◌}
use Rattle.std.specs.Option.{option_copied}
use Rattle.viz_account.specs.Audited.{is_contour}
use Rattle.viz_account.proofs.GroundLemmas.{ground_from}
use Rattle.viz_account.proofs.ground.ground.Goals as goal

pub returns : goal.returns
returns g c =
    let contour : is_contour c.in-Some.found.now.settings ≡ true = cc in
    ground_from c.args.net.now c.in_ok-_steps._steps.items c.args.node c.in-Some.found.now c.in_ok-_steps.ensures.value (sym c.node.ensures.value ∙ ap option_copied c.in-Some.is)
    c.in-Some-first_input.from c.in_ok-extent.extent contour (sym c.first_input.ensures ∙ c.in-Some-first_input.is) c.in_ok-extent.ensures
