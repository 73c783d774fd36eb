use Rattle.viz_sheet.specs.Arrays.{names_in, points_in, ranks_in}
use Rattle.viz_piece_restrict.proofs.KeepLemmas.{cells-for, kept-made}
use Rattle.viz_piece_restrict.proofs.keeping.kept_sheet.Goals as goal

pub compacted-requires : goal.compacted-requires
compacted-requires c = record {
  cells =
      cells-for c.args.sheet.now (names_in c.leaves.result.now) (points_in c.places.result.now) (ranks_in c.ranks-ranks.result.now) (ranks_in c.in_ok-cells.cells) c.args.keeps.now
      c.ranks-ranks.ensures.valid c.leaves.ensures.value c.places.ensures.value c.in_ok-cells.ensures;
}

pub returns : goal.returns
returns c =
    kept-made c.args.sheet.now c.in_ok-made.made (names_in c.leaves.result.now) (points_in c.places.result.now) (ranks_in c.ranks-ranks.result.now) (ranks_in c.in_ok-cells.cells) c.args.keeps.now
    c.known.ensures.valid c.known-2.ensures.valid c.ranks-ranks.ensures.valid c.ranks-ranks.ensures.value c.leaves.ensures.value c.places.ensures.value c.in_ok-cells.ensures
    c.in_ok-made.ensures.points c.in_ok-made.ensures.cells
