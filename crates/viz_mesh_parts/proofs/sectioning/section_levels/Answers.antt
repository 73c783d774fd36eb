use Rattle.std.proofs.Common.{◌<◌, ◌∙◌, arith, ap, length, map}
use Rattle.viz_meaning.specs.Section.{is_inside_at}
use Rattle.viz_mesh_parts.proofs.MadeLemmas.{section-next}
use Rattle.viz_mesh_parts.proofs.sectioning.section_levels.Goals as goal

pub loop-i-preserved : goal.loop-i-preserved
loop-i-preserved c =
    let f = c.args.form.now in
    let s = c.sheet-sheet.result.now in
    let below : c.loop-i.i < length s.cells = omega (arith, c.loop-i-test.true, c.cell_count-i-end.ensures.value) in
    section-next f c.args.part.now s c.loop-i.i c.count_in.result c.level.result c.cell.result.now c.deref.result.now c.loop-i.levels.items c.push_copies.new.levels.items
    c.sheet-sheet.ensures.value c.known.ensures.valid.matched c.known-2.ensures.valid
    (c.deref.ensures.value ∙ c.in_ok-inside.ensures ∙ ap (map (is_inside_at f)) c.places.ensures.value)
    below c.cell.ensures.names c.cell.ensures.below c.count_in.ensures c.level.ensures.value c.loop-i.invariant c.in_ok-push_copies.ensures
