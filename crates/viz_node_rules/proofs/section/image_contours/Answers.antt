use Rattle.std.proofs.Common.{◌≡◌, ℕ, ℤ, pos, ◌+◌, ◌<◌, ◌≤◌, List, ◌++◌, ◌∷◌, [], length, map, take, get_or, sym, ap, subst, ◌∙◌, rules, arith}
use Rattle.std.specs.List.{All}
use Rattle.std.proofs.lemmas.List.{take_all, length-map}
use Rattle.std.proofs.lemmas.List.Elements.{All-more, All-cons, All-nil}
use Rattle.viz_fraction.specs.Forms.{contour_form}
use Rattle.viz_fraction.specs.declared.forms.Form.{Form}
use Rattle.viz_meaning.specs.Narrow.{IsNarrowSection, AreNarrowSections}
use Rattle.viz_meaning.specs.Section.{section_of, sections_of}
use Rattle.viz_meaning.specs.Tetrahedra.{tetrahedra_sheet}
use Rattle.viz_sheet.specs.Sheet.{SheetData, IsFit}
use Rattle.viz_node_rules.proofs.SectionLemmas.{sections_more, get_or_map, push_fit}
use Rattle.viz_node_rules.proofs.section.image_contours.Goals as goal

-- a place among the levels is one among their forms
among : (levels : List ℤ) (k : ℕ) → k < length levels → k < length (map contour_form levels)
among levels k l = let size = length-map levels contour_form in omega (arith, l, size)

-- all forms stand in front of a place behind all levels
all_before : (levels : List ℤ) (k : ℕ) → length levels ≤ k → take k (map contour_form levels) ≡ map contour_form levels
all_before levels k l = let size = length-map levels contour_form in take_all k (map contour_form levels) (omega (arith, l, size))

pub returns-in_err-contour-clause-too_wide : goal.returns-in_err-contour-clause-too_wide
returns-in_err-contour-clause-too_wide c wide narrow =
    let levels = c.args.levels.now in
    let sheet : SheetData = tetrahedra_sheet c.args.image.now in
    let k = c.loop-level.level-index in
    let all = narrow.each k (contour_form (pos 0)) (among levels k c.loop-level-test.true) 0 sheet (omega arith) in
    c.in_err-contour.ensures.too_wide (search rules) (subst (λ f. IsNarrowSection f sheet) (get_or_map contour_form levels k (pos 0)) all)

pub loop-level-preserved : goal.loop-level-preserved
loop-level-preserved c =
    let levels = c.args.levels.now in
    let forms : List Form = map contour_form levels in
    let sheet : SheetData = tetrahedra_sheet c.args.image.now in
    let k = c.loop-level.level-index in
    let d : Form = contour_form (pos 0) in
    let old : List SheetData = c.loop-level.sheets.items in
    let is : get_or forms k d ≡ contour_form (get_or levels k (pos 0)) = get_or_map contour_form levels k (pos 0) in
    let narrow = All-cons (IsNarrowSection (get_or forms k d)) sheet [] (subst (λ f. IsNarrowSection f sheet) (sym is) c.in_ok-contour.ensures.narrow) (All-nil (IsNarrowSection (get_or forms k d))) in
    record {
      value = sections_more forms sheet old c.push.new.self.items k d (among levels k c.loop-level-test.true) c.loop-level.invariant.value
          (c.in_ok-push.ensures.items ∙ ap (λ (s : SheetData). old ++ s ∷ []) (c.in_ok-contour.ensures.value ∙ ap (λ f. section_of f sheet) (sym is)));
      narrow = All-more (λ f. All (IsNarrowSection f) (sheet ∷ [])) forms k d (among levels k c.loop-level-test.true) c.loop-level.invariant.narrow narrow;
      fits = subst (All IsFit) (sym c.in_ok-push.ensures.items)
          (push_fit old c.in_ok-contour.field-0 (contour_form (get_or levels k (pos 0))) sheet c.loop-level.invariant.fits c.in_ok-contour.ensures.value c.tetrahedra_fit.ensures);
    }

pub returns-clause-value : goal.returns-clause-value
returns-clause-value c =
    c.new.ensures.value ∙ c.loop-level.invariant.value
    ∙ ap (λ fs. sections_of fs (tetrahedra_sheet c.args.image.now ∷ [])) (all_before c.args.levels.now c.loop-level.level-index c.loop-level-test.false)

pub returns-clause-narrow : goal.returns-clause-narrow
returns-clause-narrow c = record {
  each = subst (All (λ f. All (IsNarrowSection f) (tetrahedra_sheet c.args.image.now ∷ []))) (all_before c.args.levels.now c.loop-level.level-index c.loop-level-test.false) c.loop-level.invariant.narrow;
}

pub returns-clause-fits : goal.returns-clause-fits
returns-clause-fits c = subst (All IsFit) (sym c.new.ensures.value) c.loop-level.invariant.fits
