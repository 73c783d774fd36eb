use Rattle.std.proofs.Common.{◌∙◌, ap, rules, subst, sym}
use Rattle.std.specs.List.{All}
use Rattle.viz_parts.specs.Parts.{PartSheetData}
use Rattle.viz_parts.specs.declared.request.Part.TheVariants.{Mesh}
use Rattle.viz_piece_divisions.specs.Divisions.{section_parts}
use Rattle.viz_sheet.specs.Sheet.{IsFit}
use Rattle.viz_mesh_parts.proofs.AnswerLemmas.{narrow-from, narrow-to, section-answer}
use Rattle.viz_mesh_parts.proofs.parts.section_part.Goals as goal

pub sectioned_parts-requires : goal.sectioned_parts-requires
sectioned_parts-requires c = record { fit = subst (All (λ (p : PartSheetData). IsFit p.sheet)) (sym c.parts_of.ensures.value) c.requires.fit.each }

pub returns-clause-answers : goal.returns-clause-answers
returns-clause-answers c =
    section-answer c.args.forms.now c.args.input.now (Mesh c.in_ok-made.made) tt
    (c.in_ok-made.ensures.value ∙ ap (section_parts c.args.forms.now) c.parts_of.ensures.value)

pub returns-clause-narrow : goal.returns-clause-narrow
returns-clause-narrow c = narrow-to c.args.forms.now c.args.input.now c.parts_of.result.now c.parts_of.ensures.value c.in_ok-made.ensures.narrow

pub returns-in_err-made-clause-too_wide : goal.returns-in_err-made-clause-too_wide
returns-in_err-made-clause-too_wide c wide narrow =
    c.in_err-made.ensures.too_wide (search rules) (narrow-from c.args.forms.now c.args.input.now c.parts_of.result.now c.parts_of.ensures.value narrow)
