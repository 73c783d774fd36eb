use Rattle.std.proofs.Common.{◌<◌, ap, sym, ◌∙◌, arith}
use Rattle.viz_mixed.specs.Mixed.{is_mixed}
use Rattle.viz_grid_section.proofs.SectionLemmas.{row-none, row-more}
use Rattle.viz_flags.proofs.MixedLemmas.{none-set, row-unmixed}
use Rattle.viz_flags.proofs.layers.push_some.Goals as goal

pub returns-then-mixed-eq0 : goal.returns-then-mixed-eq0
returns-then-mixed-eq0 g c =
    row-unmixed c.args.inside.now c.args.row c.args.plane c.args.first c.args.count _
    (λ t l.
    let within : t < 64 = omega (arith, l, c.requires.most) in
    sym (c.mixed_of-mixed.ensures.value t within ∙ ap is_mixed (c.corner_words-words.ensures.value t within))
    ∙ none-set c.mixed_of-mixed.result t c.if-mixed-eq0.true)

pub push_cube-requires-clause-mixed : goal.push_cube-requires-clause-mixed
push_cube-requires-clause-mixed g c =
    let within : c.loop-t.t < 64 = omega arith in
    c.mixed_of-mixed.ensures.value c.loop-t.t within

pub loop-t-init : goal.loop-t-init
loop-t-init g c = row-none _ _ _ _ _

pub loop-t-preserved : goal.loop-t-preserved
loop-t-preserved g c =
    let within : c.loop-t.t < 64 = omega arith in
    row-more c.args.inside.now _ c.args.plane c.loop-t.t c.args.first _ _ _ c.loop-t.invariant
    (c.in_ok-push_cube.ensures c.args.inside.now (c.corner_words-words.ensures.value c.loop-t.t within))
