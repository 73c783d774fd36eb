use Rattle.std.proofs.Common.{◌≡◌, ◌-◌, ◌++◌, ◌∙◌, List, ℕ, ap, arith, drop, length, take}
use Rattle.std.proofs.lemmas.List.{length-drop, take_all}
use Rattle.viz_sheet.specs.Arrays.{ranks_in}
use Rattle.viz_merge.specs.Steps.Cells.{left_cells}
use Rattle.viz_merge.proofs.CellLemmas.{left-named}
use Rattle.viz_merge.proofs.merging.push_sheet.Goals as goal

pub returns-clause-value : goal.returns-clause-value
returns-clause-value c =
    let ns = c.args.numbers.now in
    let rest = drop c.args.at ns in
    let cells = ranks_in c.ranks.result.now in
    let out = c.args.out.now.items in
    let whole : take (length ns - c.args.at) rest ≡ rest = take_all (length ns - c.args.at) rest (omega (arith, length-drop c.args.at ns)) in
    c.in_ok-push_cells.ensures.value ∙ ap (λ (ms : List ℕ). out ++ left_cells ms cells) whole
    ∙ ap (λ t. out ++ t) (left-named c.args.sheet.now rest cells c.known.ensures.valid c.ranks.ensures.valid c.ranks.ensures.value)
