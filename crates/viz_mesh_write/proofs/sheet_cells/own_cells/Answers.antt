use Rattle.std.proofs.Common.{ap, length, map, sym, ◌∙◌}
use Rattle.viz_sheet.specs.Arrays.{ranks_in}
use Rattle.viz_sheet.specs.Ranked.{ranks_of}
use Rattle.viz_mesh_write.proofs.CellLemmas.{ranks_again}
use Rattle.viz_mesh_write.proofs.SheetLemmas.{own_are}
use Rattle.viz_mesh_write.proofs.sheet_cells.own_cells.Goals as goal

pub returns : goal.returns
returns c =
    let names = c.args.sheet.names in
    let cells = ranks_in c.into_ranks.result in
    let rule = c.into_ranks.ensures.valid.rule in
    own_are c.args.sheet _ (c.len-points.ensures.value ∙ ap length c.places.ensures.value) (sym (ranks_again names cells rule.ascending rule.each) ∙ ap (map (ranks_of names)) c.into_ranks.ensures.value)
