use Rattle.std.proofs.Common.{◌≡◌, ℕ, ◌+◌, ◌<◌, ◌∙◌, List, ◌++◌, [], length, ap, get_or, map, rules, subst, sym, take}
use Rattle.std.specs.List.{All, flat_map}
use Rattle.std.proofs.lemmas.List.{flat_map_more, take_all, take_more}
use Rattle.std.proofs.lemmas.List.Elements.{All-more}
use Rattle.viz_fraction.specs.declared.forms.Form.{Form}
use Rattle.viz_meaning.specs.Narrow.{IsNarrowSection}
use Rattle.viz_parts.specs.Parts.{PartSheetData}
use Rattle.viz_piece_divisions.specs.Divisions.{section_parts}
use Rattle.viz_piece_filters.specs.Filters.{section_part}
use Rattle.viz_mesh_parts.proofs.sectioning.sectioned_parts.Goals as goal

-- the sections by one more form
sections-more : (forms : List Form) (parts old new : List PartSheetData) (i : ℕ) (d : Form) → i < length forms → old ≡ section_parts (take i forms) parts
    → new ≡ old ++ map (section_part (get_or forms i d)) parts → new ≡ section_parts (take (i + 1) forms) parts
sections-more forms parts old new i d l is more =
    let by = λ (f : Form). map (section_part f) parts in
    more ∙ ap (λ t. t ++ by (get_or forms i d)) is
    ∙ flat_map_more by [] (take i forms) (get_or forms i d) ∙ ap (flat_map by) (sym (take_more forms i d l))

pub returns-in_err-push_sections-clause-too_wide : goal.returns-in_err-push_sections-clause-too_wide
returns-in_err-push_sections-clause-too_wide c wide narrow =
    c.in_err-push_sections.ensures.too_wide (search rules) (narrow c.loop-form.form-index _ c.loop-form-test.true)

pub loop-form-preserved : goal.loop-form-preserved
loop-form-preserved c =
    let forms = c.args.forms.now in
    let parts = c.args.parts.now in
    let i = c.loop-form.form-index in
    record {
      value = sections-more forms parts _ _ i _ c.loop-form-test.true c.loop-form.invariant.value c.in_ok-push_sections.ensures.value;
      narrow =
          All-more (λ f. All (λ (p : PartSheetData). IsNarrowSection f p.sheet) parts) forms i _ c.loop-form-test.true c.loop-form.invariant.narrow
          c.in_ok-push_sections.ensures.narrow;
    }

pub returns-clause-narrow : goal.returns-clause-narrow
returns-clause-narrow c =
    subst (All (λ f. All (λ (p : PartSheetData). IsNarrowSection f p.sheet) c.args.parts.now)) (take_all c.loop-form.form-index c.args.forms.now c.loop-form-test.false)
    c.loop-form.invariant.narrow
