use Rattle.std.proofs.Common.{List, sym, subst}
use Rattle.viz_parts.specs.declared.request.Part.{Part}
use Rattle.viz_executive.specs.Steps.Wholes.{AreAnswered}
use Rattle.viz_executive.proofs.WholeLemmas.{all_parts, answered_parts, whole_is}
use Rattle.viz_executive.proofs.wholes.whole_of.Goals as goal

pub stitch_shared-requires : goal.stitch_shared-requires
stitch_shared-requires c =
    let g = c.args.ground.now in
    let parts = c.in_ok-parts.parts.items in
    let answered : AreAnswered g g.requests parts =
    subst (λ (ps : List Part). AreAnswered g g.requests ps) (sym c.in_ok-parts.ensures)
    (answered_parts g c.args.answered.items c.requires.all) in
    let h = all_parts c.datasets_are_divided.ensures.one c.datasets_are_divided.ensures.given
    c.divisions_share_out.ensures.all c.told_is_of_datasets.ensures.extent
    c.told_is_of_datasets.ensures.mesh g c.known.ensures.update c.args._pieces c.requires.requests
    c.requires.some parts answered in
    record { all = (h.whole, h.all) }

pub returns : goal.returns
returns c =
    let g = c.args.ground.now in
    let parts = c.in_ok-parts.parts.items in
    let answered : AreAnswered g g.requests parts =
    subst (λ (ps : List Part). AreAnswered g g.requests ps) (sym c.in_ok-parts.ensures)
    (answered_parts g c.args.answered.items c.requires.all) in
    let h = all_parts c.datasets_are_divided.ensures.one c.datasets_are_divided.ensures.given
    c.divisions_share_out.ensures.all c.told_is_of_datasets.ensures.extent
    c.told_is_of_datasets.ensures.mesh g c.known.ensures.update c.args._pieces c.requires.requests
    c.requires.some parts answered in
    let is = c.in_ok-whole.ensures.whole h.whole h.all in
    record { whole = whole_is g parts h c.in_ok-whole.whole is }
