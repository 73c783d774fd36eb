use Rattle.std.proofs.Common.{◌∙◌, ◌++◌, [], ◌∷◌, ap, append_assoc, map, refl, rules, subst, take}
use Rattle.std.proofs.lemmas.List.{take_all}
use Rattle.std.specs.List.{All}
use Rattle.viz_meaning.specs.Narrow.{IsNarrowSection}
use Rattle.viz_parts.specs.Parts.{PartSheetData}
use Rattle.viz_piece_filters.specs.Filters.{section_part}
use Rattle.viz_sheet.specs.Sheet.{IsFit}
use Rattle.viz_cells.proofs.NumberLemmas.{all-at, all-more, map-more}
use Rattle.viz_mesh_parts.proofs.sectioning.push_sections.Goals as goal

pub sectioned_part-requires : goal.sectioned_part-requires
sectioned_part-requires c = record {
  fit = all-at (λ (p : PartSheetData). IsFit p.sheet) c.args.parts.now c.loop-part.part-index c.part-item.result c.part-item.result c.requires.fit c.loop-part-test.true c.part-item.is refl;
}

pub returns-in_err-sectioned_part-clause-too_wide : goal.returns-in_err-sectioned_part-clause-too_wide
returns-in_err-sectioned_part-clause-too_wide c wide narrow =
    c.in_err-sectioned_part.ensures.too_wide (search rules)
    (all-at (λ (p : PartSheetData). IsNarrowSection c.args.form.now p.sheet) c.args.parts.now c.loop-part.part-index c.part-item.result c.part-item.result narrow c.loop-part-test.true c.part-item.is refl)

pub loop-part-preserved : goal.loop-part-preserved
loop-part-preserved c =
    let f = section_part c.args.form.now in
    let parts = c.args.parts.now in
    let i = c.loop-part.part-index in
    let old = c.args.out.now.items in
    let new = c.in_ok-sectioned_part.field-0 in
    record {
      value =
          c.in_ok-push.ensures.items ∙ ap (λ l. l ++ new ∷ []) c.loop-part.invariant.value ∙ append_assoc old (map f (take i parts)) (new ∷ [])
          ∙ ap (λ t. old ++ t) (map-more f parts i c.part-item.result (map f (take i parts)) new c.loop-part-test.true c.part-item.is refl c.in_ok-sectioned_part.ensures.value);
      narrow =
          all-more (λ (p : PartSheetData). IsNarrowSection c.args.form.now p.sheet) parts i c.part-item.result c.loop-part-test.true c.part-item.is c.loop-part.invariant.narrow
          c.in_ok-sectioned_part.ensures.narrow;
    }

pub returns-clause-narrow : goal.returns-clause-narrow
returns-clause-narrow c =
    subst (All (λ (p : PartSheetData). IsNarrowSection c.args.form.now p.sheet)) (take_all c.loop-part.part-index c.args.parts.now c.loop-part-test.false) c.loop-part.invariant.narrow
