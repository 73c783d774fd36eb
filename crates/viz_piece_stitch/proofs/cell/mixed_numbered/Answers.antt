use Rattle.std.proofs.Common.{get_or, ◌∙◌}
use Rattle.viz_sheet.specs.Steps.Lookup.{looked_up}
use Rattle.viz_sheet.proofs.LookupLemmas.{map_taken}
use Rattle.viz_piece_stitch.proofs.cell.mixed_numbered.Goals as goal

pub returns : goal.returns
unfolding looked_up
returns c =
    c.new.ensures.value
    ∙ map_taken (λ r. get_or c.args.numbers.now r 0) c.args.cell.now
    c.number_at.result c.number_at-2.result c.number_at-3.result c.number_at-4.result c.requires.most
    c.number_at.ensures c.number_at-2.ensures c.number_at-3.ensures c.number_at-4.ensures
