use Rattle.std.proofs.Common.{inr, refl}
use Rattle.viz_dataset.specs.declared.dataset.Dataset.TheVariants.{Mesh}
use Rattle.viz_parts.specs.Pieces.{in_turn}
use Rattle.viz_piece_tests.proofs.pieces.piece_cut.Goals as goal

pub returns : goal.returns
returns c = λ sheets only.
    c.in_ok-part.ensures.ok.answers (Mesh sheets) (in_turn sheets) (inr (refl, refl))
    (c.in_ok-larger.ensures.ok.answers (Mesh sheets) (in_turn sheets) (inr (refl, refl)) only)
