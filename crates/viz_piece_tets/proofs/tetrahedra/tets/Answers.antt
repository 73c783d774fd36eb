use Rattle.std.proofs.Common.{◌∷◌, [], ap, ◌∙◌}
use Rattle.viz_piece_tets.proofs.TetsLemmas.{tets-answer}
use Rattle.viz_piece_tets.proofs.tetrahedra.tets.Goals as goal

pub returns : goal.returns
returns c = record {
  answers = record {
    each = λ image same is. (
      c.requires.below,
      tets-answer c.tets_are_parts.ensures.parts c.args.p c.args.n c.args.ghosts c.args.whole.now c.args.slab.now c.in_ok-vec.field-0.items c.requires.below
          (c.in_ok-vec.ensures.items ∙ ap (λ q. q ∷ []) c.in_ok-piece.ensures.value) image same is,
    );
  };
}
