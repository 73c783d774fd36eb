use Rattle.std.proofs.Common.{◌<◌, ◌∙◌, arith, ap, get_or, length, refl, sym, []}
use Rattle.viz_sheet.specs.Ranked.{names_at}
use Rattle.viz_sheet.specs.Sheet.{SheetData}
use Rattle.viz_mesh_parts.specs.Steps.{itself}
use Rattle.viz_mesh_parts.proofs.HandedLemmas.{handed-next}
use Rattle.viz_mesh_parts.proofs.selecting.selected_levels.Goals as goal

pub loop-i-preserved : goal.loop-i-preserved
loop-i-preserved c =
    let part = c.args.part.now in
    let s = c.sheet-sheet.result.now in
    let i = c.loop-i.i in
    let below : i < length part.sheet.cells = omega (arith, c.loop-i-test.true, c.cell_count-i-end.ensures.value, ap (λ (t : SheetData). length t.cells) c.sheet-sheet.ensures.value) in
    handed-next itself part c.args.made.now.cells i c.loop-i.at c.step-next.result (names_at s.names c.cell.result.now) c.level.result c.loop-i.levels.items c.push_copies.new.levels.items
    c.known.ensures.valid.matched below (ap (λ (t : SheetData). get_or t.cells i []) (sym c.sheet-sheet.ensures.value) ∙ sym c.cell.ensures.names) c.level.ensures.value
    (c.step-next.result, c.step-next.ensures.value, refl) c.in_ok-push_copies.ensures c.loop-i.invariant
