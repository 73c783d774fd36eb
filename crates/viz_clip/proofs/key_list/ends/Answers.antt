use Rattle.std.proofs.Common.{◌≡◌, ◌<◌, ◌≤◌, ℕ, List, [], ◌∷◌, ◌++◌, get_or, length, map, take, ap, ap₂, sym, subst, ◌∙◌, arith}
use Rattle.std.specs.List.{All, flat_map}
use Rattle.std.proofs.lemmas.List.{get_or-map, length-map, map-append, take_more}
use Rattle.viz_sheet.specs.Arrays.{ranks_in}
use Rattle.viz_cells.specs.Steps.Numbered.{AreAdded}
use Rattle.viz_clip.specs.Steps.Keys.{IsTet, cell_keys, cut_keys, keys_in}
use Rattle.viz_clip.proofs.AddedLemmas.{added-none, ends-more_cells, ends-of_cells}
use Rattle.viz_clip.proofs.key_list.ends.Goals as goal

pub loop-i-preserved : goal.loop-i-preserved
unfolding keys_in
loop-i-preserved c =
    let cells = ranks_in c.args.ranks.now in
    let inside = c.args.inside.now in
    let i = c.loop-i.i in
    let l : i < length cells = omega (arith, c.loop-i-test.true, c.len-i-end.ensures.value) in
    let parted = c.corners_of-corners.ensures.parted in
    ends-more_cells inside cells c.loop-i.ends.items c.add_cell.new.ends.items i c.get.result.now l c.get.ensures.value c.loop-i.invariant
    (subst (λ t. AreAdded c.loop-i.ends.items t c.add_cell.new.ends.items) (ap₂ cut_keys parted.first parted.last) c.in_ok-add_cell.ensures.added)

pub returns : goal.returns
returns c =
    let cells = ranks_in c.args.ranks.now in
    let whole : length cells ≤ c.loop-i.i = omega (arith, c.loop-i-test.false, c.len-i-end.ensures.value) in
    record { value = ends-of_cells c.args.inside.now cells c.loop-i.ends.items c.loop-i.i whole c.loop-i.invariant }
