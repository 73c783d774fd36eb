use Rattle.std.proofs.Common.{length, subst}
use Rattle.viz_inform.specs.Steps.Taking.{AreTaken}
use Rattle.viz_inform.proofs.TableLemmas.{place_within}
use Rattle.viz_inform.proofs.ToldLemmas.{all_told}
use Rattle.viz_inform.proofs.informing.told_above.Goals as goal

pub marks_above-requires-clause-within : goal.marks_above-requires-clause-within
marks_above-requires-clause-within c =
    place_within c.args.steps.now c.args.sink c.args.node c.requires.at

pub returns : goal.returns
returns c =
    let steps = c.args.steps.now in
    let table = c.args.table.now in
    let told = c.in_ok-told.told.items in
    all_told c.args.net.now steps c.args.sink c.args.node c.in_ok-marks.marks.items table told
    c.requires.at c.in_ok-marks.ensures.value c.requires.table
    (subst (λ marks. AreTaken steps marks table (length steps) told)
    c.deref.ensures.value c.in_ok-told.ensures)
