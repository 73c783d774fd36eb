use Rattle.std.proofs.Common.{◌≡◌, slice_get, Some, true, false, true≢false, sym, ap, ◌∙◌, arith}
use Rattle.std.proofs.lemmas.Option.{slice_get_within, slice_get-get_or}
use Rattle.viz_inform.proofs.AboveLemmas.{inputs_below, passed, not_passed}
use Rattle.viz_inform.proofs.marks.pass_on.Goals as goal

pub mark_all-requires : goal.mark_all-requires
mark_all-requires c j p at =
    let within = slice_get_within c.args.steps.now c.args.place c.args.step.now c.requires.at in
    let below = inputs_below c.args.net.now c.args.steps.now c.requires.steps c.args.place c.args.step.now c.requires.at j p at in
    omega (arith, within, below, c.requires.marks.count)

pub returns-then-index : goal.returns-then-index
returns-then-index c =
    let within = slice_get_within c.args.steps.now c.args.place c.args.step.now c.requires.at in
    let mine : slice_get c.args.marks.now.items c.args.place ≡ Some true =
    slice_get-get_or c.args.marks.now.items c.args.place c.index.result.now (omega (arith, within, c.requires.marks.count)) ∙ ap Some (sym c.index.ensures ∙ c.if-index.true) in
    rw c.mark_all.ensures (passed c.args.net.now c.args.steps.now c.requires.steps c.args.place c.args.step.now c.requires.at c.args.sink c.args.marks.now.items c.requires.marks mine)

pub returns-else-index : goal.returns-else-index
returns-else-index c =
    let within = slice_get_within c.args.steps.now c.args.place c.args.step.now c.requires.at in
    let mine : slice_get c.args.marks.now.items c.args.place ≡ Some false =
    slice_get-get_or c.args.marks.now.items c.args.place c.index.result.now (omega (arith, within, c.requires.marks.count)) ∙ ap Some (sym c.index.ensures ∙ c.if-index.false) in
    not_passed c.args.net.now c.args.steps.now c.requires.steps c.args.place c.args.step.now c.requires.at c.args.sink c.args.marks.now.items c.requires.marks
    (λ h. let both : Some true ≡ Some false = sym h ∙ mine in let one : true ≡ false = cc in true≢false one)
