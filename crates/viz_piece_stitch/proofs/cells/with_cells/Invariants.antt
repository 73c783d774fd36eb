use Rattle.std.proofs.Common.{◌≡◌, ◌++◌, map, take}
use Rattle.viz_parts.specs.Stitching.{own_items}
use Rattle.viz_sheet.specs.Steps.Lookup.{looked_up}
use Rattle.viz_piece_stitch.proofs.cells.with_cells.Given as goal

abbrev pub invariant-loop-i : goal.invariant-loop-i
invariant-loop-i g l =
    map g.C.RankCell.ranks l.cells.items
    ≡ map g.C.RankCell.ranks l.initial.cells.items ++ own_items (map (λ cell. looked_up l.numbers (g.C.RankCell.ranks cell)) (take l.i l.ranks)) (take l.i l.part.levels)
