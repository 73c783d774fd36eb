use Rattle.std.proofs.Common.{◌+◌, map, ap, ◌∙◌}
use Rattle.viz_sheet.specs.Arrays.{names_in, points_in, ranks_in}
use Rattle.viz_piece_tets.proofs.MoveLemmas.{moved-is, ranks-from}
use Rattle.viz_piece_tets.proofs.shifting.moved.Goals as goal

pub new-requires : goal.new-requires
new-requires c = record {
  ranks =
      ranks-from c.tetrahedra_parts_are_parts.ensures.sheet c.args.by c.args.sheet (names_in c.in_ok-leaves.leaves) (ranks_in c.into_ranks-ranks.result) (points_in c.in_ok-places.places)
      c.known.ensures.valid c.into_ranks-ranks.ensures.valid
      (c.in_ok-leaves.ensures ∙ ap (map (map (λ leaf. leaf + c.args.by))) c.leaves.ensures.value) (c.in_ok-places.ensures ∙ c.places.ensures.value);
}

pub returns : goal.returns
returns c = record {
  value =
      moved-is c.args.by c.args.sheet c.new.result (names_in c.in_ok-leaves.leaves) (ranks_in c.into_ranks-ranks.result) (points_in c.in_ok-places.places)
      (c.in_ok-leaves.ensures ∙ ap (map (map (λ leaf. leaf + c.args.by))) c.leaves.ensures.value) (c.in_ok-places.ensures ∙ c.places.ensures.value)
      c.into_ranks-ranks.ensures.value c.new.ensures.names c.new.ensures.points c.new.ensures.cells;
}
