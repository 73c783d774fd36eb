use Rattle.std.proofs.Common.{◌≡◌, ◌∙◌, ap, length, replicate}
use Rattle.viz_mesh_meaning.specs.Select.{selected}
use Rattle.viz_piece_filters.specs.Filters.{selected_part}
use Rattle.viz_sheet.specs.Sheet.{SheetData}
use Rattle.viz_mesh_parts.proofs.MadeLemmas.{same-part, selected-count, selected-levels, selected-own}
use Rattle.viz_mesh_parts.proofs.selecting.selected_part.Goals as goal

pub returns-then-are_own : goal.returns-then-are_own
returns-then-are_own c =
    let all = c.args.all in
    let part = c.args.part.now in
    let is : c.in_ok-made.made ≡ selected all c.args.lo.now c.args.hi.now part.sheet =
    c.in_ok-made.ensures ∙ ap (selected all c.args.lo.now c.args.hi.now) c.sheet.ensures.value in
    same-part c.own.result (selected_part all c.args.lo.now c.args.hi.now part) (c.own.ensures.sheet ∙ is)
    (c.own.ensures.levels ∙ ap (λ (t : SheetData). replicate (length t.cells) 0) is
    ∙ selected-own all c.args.lo.now c.args.hi.now part (c.are_own.ensures c.if-are_own.true))

pub new-requires : goal.new-requires
new-requires c =
    let all = c.args.all in
    let part = c.args.part.now in
    let is : c.in_ok-made.made ≡ selected all c.args.lo.now c.args.hi.now part.sheet =
    c.in_ok-made.ensures ∙ ap (selected all c.args.lo.now c.args.hi.now) c.sheet.ensures.value in
    record {
      matched =
          selected-count all c.args.lo.now c.args.hi.now part c.in_ok-levels.levels.items c.in_ok-made.made.cells c.known.ensures.valid.matched (ap (λ (t : SheetData). t.cells) is)
          c.in_ok-levels.ensures;
    }

pub returns : goal.returns
returns c =
    let all = c.args.all in
    let part = c.args.part.now in
    let is : c.in_ok-made.made ≡ selected all c.args.lo.now c.args.hi.now part.sheet =
    c.in_ok-made.ensures ∙ ap (selected all c.args.lo.now c.args.hi.now) c.sheet.ensures.value in
    same-part c.new.result (selected_part all c.args.lo.now c.args.hi.now part) (c.new.ensures.sheet ∙ is)
    (c.new.ensures.levels ∙ selected-levels all c.args.lo.now c.args.hi.now part c.in_ok-levels.levels.items c.in_ok-made.made.cells (ap (λ (t : SheetData). t.cells) is) c.in_ok-levels.ensures)
