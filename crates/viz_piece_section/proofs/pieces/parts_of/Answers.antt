use Rattle.std.proofs.Common.{◌≡◌, ◌++◌, [], ◌∷◌, map, take, ap, ap₂, rules, sym, subst, ◌∙◌}
use Rattle.std.specs.List.{All}
use Rattle.std.proofs.lemmas.List.{map_more, take_all}
use Rattle.std.proofs.lemmas.List.Elements.{All-more}
use Rattle.viz_fraction.specs.declared.forms.Form.{Form}
use Rattle.viz_meaning.specs.Narrow.{IsNarrowSection}
use Rattle.viz_meaning.specs.Tetrahedra.{tetrahedra_sheet}
use Rattle.viz_piece_section.specs.Sections.{section_piece}
use Rattle.viz_piece_section.proofs.SectionLemmas.{all-narrow, narrow-at}
use Rattle.viz_piece_section.proofs.pieces.parts_of.Goals as goal

pub returns-in_err-part_of-clause-too_wide : goal.returns-in_err-part_of-clause-too_wide
returns-in_err-part_of-clause-too_wide c wide narrow =
    c.in_err-part_of.ensures.too_wide (search rules) (narrow-at c.args.forms.now c.args.slab.now c.loop-form.form-index _ c.loop-form-test.true narrow)

pub loop-form-preserved : goal.loop-form-preserved
loop-form-preserved c =
    let forms = c.args.forms.now in
    let i = c.loop-form.form-index in
    let f = λ (f : Form). section_piece f c.args.p c.args.n c.args.whole.now c.args.slab.now in
    record {
      value =
          c.in_ok-push.ensures.items ∙ ap₂ (λ t x. t ++ x ∷ []) c.loop-form.invariant.value c.in_ok-part_of.ensures.value
          ∙ sym (map_more f forms i _ c.loop-form-test.true);
      narrow = All-more (λ f. IsNarrowSection f (tetrahedra_sheet c.args.slab.now)) forms i _ c.loop-form-test.true c.loop-form.invariant.narrow c.in_ok-part_of.ensures.narrow;
    }

pub returns-clause-narrow : goal.returns-clause-narrow
returns-clause-narrow c =
    all-narrow c.args.forms.now c.args.slab.now
    (subst (All (λ f. IsNarrowSection f (tetrahedra_sheet c.args.slab.now))) (take_all c.loop-form.form-index c.args.forms.now c.loop-form-test.false) c.loop-form.invariant.narrow)
