use Rattle.std.proofs.Common.{◌∙◌, ◌++◌, [], ◌∷◌, ap, append_assoc, map, refl, rules, subst, take}
use Rattle.std.proofs.lemmas.List.{take_all}
use Rattle.std.specs.List.{All}
use Rattle.viz_meaning.specs.Narrow.{IsNarrowSection}
use Rattle.viz_meaning.specs.Section.{section_of}
use Rattle.viz_sheet.specs.Sheet.{IsFit}
use Rattle.viz_cells.proofs.NumberLemmas.{all-at, all-more, map-more}
use Rattle.viz_cells.proofs.sectioning.push_sections.Goals as goal

pub section-requires : goal.section-requires
section-requires c = record {
  fit = all-at IsFit c.args.sheets.now c.loop-sheet.sheet-index c.sheet-item.result c.sheet-item.result c.requires.fit c.loop-sheet-test.true c.sheet-item.is refl;
}

pub returns-in_err-section-clause-too_wide : goal.returns-in_err-section-clause-too_wide
returns-in_err-section-clause-too_wide c wide narrow =
    c.in_err-section.ensures.too_wide (search rules)
    (all-at (IsNarrowSection c.args.form.now) c.args.sheets.now c.loop-sheet.sheet-index c.sheet-item.result c.sheet-item.result narrow c.loop-sheet-test.true c.sheet-item.is refl)

pub loop-sheet-preserved : goal.loop-sheet-preserved
loop-sheet-preserved c =
    let f = section_of c.args.form.now in
    let sheets = c.args.sheets.now in
    let i = c.loop-sheet.sheet-index in
    let old = c.args.out.now.items in
    let new = c.in_ok-section.field-0 in
    record {
      value =
          c.in_ok-push.ensures.items ∙ ap (λ l. l ++ new ∷ []) c.loop-sheet.invariant.value ∙ append_assoc old (map f (take i sheets)) (new ∷ [])
          ∙ ap (λ t. old ++ t) (map-more f sheets i c.sheet-item.result (map f (take i sheets)) new c.loop-sheet-test.true c.sheet-item.is refl c.in_ok-section.ensures.value);
      narrow = all-more (IsNarrowSection c.args.form.now) sheets i c.sheet-item.result c.loop-sheet-test.true c.sheet-item.is c.loop-sheet.invariant.narrow c.in_ok-section.ensures.narrow;
    }

pub returns-clause-narrow : goal.returns-clause-narrow
returns-clause-narrow c =
    let all = take_all c.loop-sheet.sheet-index c.args.sheets.now c.loop-sheet-test.false in
    subst (All (IsNarrowSection c.args.form.now)) all c.loop-sheet.invariant.narrow
