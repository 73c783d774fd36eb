use Rattle.viz_piece_section.proofs.SectionLemmas.{sections-answer}
use Rattle.viz_piece_section.proofs.pieces.section_image.Goals as goal

pub returns-clause-answers : goal.returns-clause-answers
returns-clause-answers c = record {
  each = λ image same is. (
    c.requires.below,
    sections-answer c.sections_are_parts.ensures.parts c.args.forms.now c.args.p c.args.n c.args.ghosts c.args.whole.now c.args.slab.now c.in_ok-parts.parts.items c.requires.below
        c.in_ok-parts.ensures.value image same is,
  );
}
