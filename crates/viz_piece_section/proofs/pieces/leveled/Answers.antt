use Rattle.std.proofs.Common.{◌-◌, length, map, refl, sym, ap, ap₂, subst, ◌∙◌}
use Rattle.viz_extent.specs.Extent.{Bounds}
use Rattle.viz_extent.specs.Slabs.{first_layer, next_layer}
use Rattle.viz_piece_layers.specs.Pieces.{leaf_shift}
use Rattle.viz_piece_tets.specs.Layers.{block_levels}
use Rattle.viz_piece_tets.proofs.MoveLemmas.{own-part, part-is}
use Rattle.viz_piece_tets.proofs.PlaneLemmas.{ArePlanes, asked-planes, levels-match}
use Rattle.viz_sheet.specs.Sheet.{SheetData}
use Rattle.viz_piece_section.specs.Sections.{section_piece}
use Rattle.viz_piece_section.specs.Steps.Leaves.{cell_level}
use Rattle.viz_piece_section.proofs.SectionLemmas.{handed-is, own-handed, sheet-is}
use Rattle.viz_piece_section.proofs.pieces.leveled.Goals as goal

pub returns-then-are_all : goal.returns-then-are_all
returns-then-are_all c =
    let whole = c.args.whole.now in
    let slab = c.args.slab.now in
    let f = c.args.form.now in
    let p = c.args.p in
    let n = c.args.n in
    let made = section_piece f p n whole slab in
    let extent = c.extent-block.ensures.value in
    let planes = subst (ArePlanes whole) (sym c.requires.slab) (asked-planes p n c.args.ghosts whole c.requires.below) in
    let sheet =
    sheet-is c.sections_of_shifted_sheets.ensures.shift f p n c.leaf_base.result whole slab c.args.sheet c.in_ok-sheet.sheet c.requires.sheet
    (c.leaf_base.ensures.value ∙ ap (leaf_shift whole) extent) c.in_ok-sheet.ensures.value in
    part-is c.own.result made.sheet made.levels (c.own.ensures.sheet ∙ sheet)
    (c.own.ensures.levels
    ∙ own-handed f p n (length c.in_ok-sheet.sheet.cells) whole slab (levels-match p n (leaf_shift whole slab.extent) whole slab planes)
    (own-part p n whole slab.extent (length (block_levels p n whole slab.extent)) c.layers_between-low.result.0 c.layers_between-low.result.1 c.of-own.result.first c.of-own.result.next
    refl c.of-own.ensures.first c.of-own.ensures.next
    (c.layers_between-low.ensures.low ∙ ap (λ (e : Bounds). e.z0 - whole.z0) extent) (c.layers_between-low.ensures.high ∙ ap (λ (e : Bounds). e.z1 - whole.z0) extent)
    (sym c.are_all.ensures.value ∙ c.if-are_all.true))
    (ap (λ (s : SheetData). length s.cells) sheet))

pub returns : goal.returns
returns c =
    let whole = c.args.whole.now in
    let slab = c.args.slab.now in
    let f = c.args.form.now in
    let p = c.args.p in
    let n = c.args.n in
    let made = section_piece f p n whole slab in
    let extent = c.extent-block.ensures.value in
    let planes = subst (ArePlanes whole) (sym c.requires.slab) (asked-planes p n c.args.ghosts whole c.requires.below) in
    let sheet =
    sheet-is c.sections_of_shifted_sheets.ensures.shift f p n c.leaf_base.result whole slab c.args.sheet c.in_ok-sheet.sheet c.requires.sheet
    (c.leaf_base.ensures.value ∙ ap (leaf_shift whole) extent) c.in_ok-sheet.ensures.value in
    part-is c.new.result made.sheet made.levels (c.new.ensures.sheet ∙ sheet)
    (c.new.ensures.levels ∙ c.in_ok-levels.ensures
    ∙ ap₂ (λ first next. map (cell_level first next whole) c.in_ok-sheet.sheet.cells) c.of-own.ensures.first c.of-own.ensures.next
    ∙ ap (λ (s : SheetData). map (cell_level (first_layer p n whole) (next_layer p n whole) whole) s.cells) sheet
    ∙ sym (handed-is c.corners_are_the_cubes.ensures.only c.edges_are_steps.ensures.steps c.tetrahedra_go_by_layers.ensures.planes c.tetrahedra_go_by_layers.ensures.even
    c.tetrahedra_go_by_layers.ensures.between f p n whole slab c.bounds-bounds.ensures.valid planes))
