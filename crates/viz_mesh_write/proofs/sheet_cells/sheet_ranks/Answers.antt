use Rattle.std.proofs.Common.{map, sym, ap, ◌∙◌}
use Rattle.viz_sheet.specs.Arrays.{ranks_in}
use Rattle.viz_sheet.specs.Ranked.{ranks_of}
use Rattle.viz_mesh_write.proofs.CellLemmas.{ranks_again}
use Rattle.viz_mesh_write.proofs.sheet_cells.sheet_ranks.Goals as goal

pub returns-clause-value : goal.returns-clause-value
returns-clause-value c =
    let names = c.args.sheet.now.names in
    let rule = c.ranks.ensures.valid.rule in
    sym (ranks_again names (ranks_in c.ranks.result.now) rule.ascending rule.each) ∙ ap (map (ranks_of names)) c.ranks.ensures.value
