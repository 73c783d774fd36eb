use Rattle.std.proofs.Common.{get_or, ◌∙◌}
use Rattle.viz_sheet.specs.Steps.Lookup.{looked_up}
use Rattle.viz_sheet.proofs.LookupLemmas.{map_taken}
use Rattle.viz_merge.proofs.cells.cell_of.Goals as goal

pub returns : goal.returns
unfolding looked_up
returns c =
    c.new.ensures.value
    ∙ map_taken (λ r. get_or c.args.numbers.now r 0) c.args.cell.now
    c.leaf_at.result c.leaf_at-2.result c.leaf_at-3.result c.leaf_at-4.result c.requires.cell.most
    c.leaf_at.ensures c.leaf_at-2.ensures c.leaf_at-3.ensures c.leaf_at-4.ensures
