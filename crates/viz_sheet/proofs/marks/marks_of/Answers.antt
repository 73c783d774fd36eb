use Rattle.std.proofs.Common.{◌≡◌, ◌++◌, Bool, false, List, length, take, drop, replicate, subst, arith, rules, ◌∙◌}
use Rattle.std.proofs.lemmas.Grind.{common_steps}
use Rattle.std.specs.List.{flat_map}
use Rattle.viz_sheet.specs.Arrays.{ranks_in}
use Rattle.viz_sheet.specs.Steps.Marking.{IsMarkedBy}
use Rattle.viz_sheet.proofs.MarkingLemmas.{just_marked}
use Rattle.viz_sheet.proofs.marks.marks_of.Goals as goal

pub returns : goal.returns
returns c =
    let cells = ranks_in c.args.cells.now in
    let new = c.mark_ranks.new.marks in
    let items = c.in_ok-marks.marks.items in
    let first : items ≡ replicate c.args.count false = search rules in
    let start : c.deref_mut.result.now ≡ replicate c.args.count false = c.deref_mut.ensures.value ∙ first in
    let marked : IsMarkedBy (replicate c.args.count false) (flat_map (λ cell. cell) cells) new = subst (λ (old : List Bool). IsMarkedBy old (flat_map (λ cell. cell) cells) new) start c.mark_ranks.ensures in
    let same : take c.in_ok-marks.marks.len (new ++ drop (length new) items) ≡ new = grind (arith, common_steps) in
    let size : length new ≡ c.args.count = grind (arith, common_steps) in
    rw same (just_marked c.args.count cells new size marked)
