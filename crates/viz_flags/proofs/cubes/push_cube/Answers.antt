use Rattle.std.proofs.Common.{append-nil, ap, sym, ◌∙◌}
use Rattle.viz_mixed.specs.Mixed.{is_mixed}
use Rattle.viz_flags.proofs.MixedLemmas.{unmixed}
use Rattle.viz_flags.proofs.cubes.push_cube.Goals as goal

pub returns-then-not-is_set : goal.returns-then-not-is_set
returns-then-not-is_set g c inside are =
    let fails = sym (c.requires.mixed ∙ ap is_mixed are) ∙ sym c.is_set.ensures ∙ c.if-not-is_set.true in
    rw (unmixed inside c.args.row c.args.plane c.args.lowest fails) (sym (append-nil _))

pub returns : goal.returns
returns g c inside are = c.in_ok-push_six.ensures inside (c.corners_at.ensures.value ∙ are)
