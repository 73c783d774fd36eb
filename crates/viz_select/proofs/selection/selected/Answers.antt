use Rattle.std.proofs.Common.{◌∙◌, ap, map}
use Rattle.viz_sheet.specs.Arrays.{names_in, points_in, ranks_in}
use Rattle.viz_sheet.specs.Kept.{kept}
use Rattle.viz_mesh_meaning.specs.Select.{has_scalar_within}
use Rattle.viz_select.specs.Steps.{is_marked}
use Rattle.viz_select.proofs.SelectionLemmas.{cells-for, selection-made}
use Rattle.viz_select.proofs.selection.selected.Goals as goal

pub compacted-requires : goal.compacted-requires
compacted-requires c = record {
  cells =
      cells-for c.args.sheet.now (names_in c.leaves.result.now) (points_in c.places-places.result.now) (ranks_in c.ranks-ranks.result.now) (ranks_in c.in_ok-cells.cells) c.deref-2.result.now
      c.ranks-ranks.ensures.valid c.leaves.ensures.value c.places-places.ensures.value c.in_ok-cells.ensures;
}

pub returns : goal.returns
returns c = record {
  value =
      selection-made c.args.all c.args.lo.now c.args.hi.now c.args.sheet.now c.in_ok-made.made (names_in c.leaves.result.now) (points_in c.places-places.result.now)
      (ranks_in c.ranks-ranks.result.now) (ranks_in c.in_ok-cells.cells) c.deref.result.now c.deref-2.result.now
      c.known.ensures.valid c.known-2.ensures.valid c.ranks-ranks.ensures.valid c.ranks-ranks.ensures.value c.leaves.ensures.value c.places-places.ensures.value
      (c.deref.ensures.value ∙ c.in_ok-within.ensures) (c.deref-2.ensures.value ∙ c.in_ok-keeps.ensures) c.in_ok-cells.ensures
      c.in_ok-made.ensures.points c.in_ok-made.ensures.cells;
}
