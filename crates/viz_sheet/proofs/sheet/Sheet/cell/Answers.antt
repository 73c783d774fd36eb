use Rattle.std.proofs.Common.{◌<◌, length, ◌∙◌, ap, arith}
use Rattle.std.proofs.lemmas.List.{length-map}
use Rattle.viz_sheet.specs.Sheet.{SheetData}
use Rattle.viz_sheet.specs.Ranked.{names_at}
use Rattle.viz_sheet.specs.Arrays.{names_in, ranks_in}
use Rattle.viz_sheet.proofs.RankLemmas.{cell_ranks}
use Rattle.viz_sheet.proofs.sheet.Sheet.cell.Goals as goal

pub returns-clause-ranks : goal.returns-clause-ranks
returns-clause-ranks c =
    let names = names_in c.self.inside.leaves in
    let cells = ranks_in c.self.inside.ranks in
    let within : c.args.i < length cells = omega (arith, length-map cells (names_at names), ap (λ (s : SheetData). length s.cells) c.self.view_is, c.requires) in
    rw (← c.self.view_is) (c.get.ensures.value ∙ cell_ranks names cells c.args.i c.self.invariant.rule.ascending c.self.invariant.rule.each within)
