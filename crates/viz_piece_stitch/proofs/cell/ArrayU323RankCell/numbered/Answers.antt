use Rattle.std.proofs.Common.{get_or}
use Rattle.viz_sheet.specs.Steps.Lookup.{looked_up}
use Rattle.viz_sheet.proofs.LookupLemmas.{map_three}
use Rattle.viz_piece_stitch.proofs.cell.ArrayU323RankCell.numbered.Goals as goal

pub returns : goal.returns
unfolding looked_up
returns c = map_three (λ r. get_or c.args.numbers.now r 0) c.args.self.now 0 c.told-self
