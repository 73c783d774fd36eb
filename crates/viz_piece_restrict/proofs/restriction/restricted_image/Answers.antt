use Rattle.std.proofs.Common.{subst, sym}
use Rattle.viz_parts.specs.Pieces.{Covers}
use Rattle.viz_parts.specs.declared.request.Part.TheVariants.{Image}
use Rattle.viz_piece_restrict.specs.Restricting.{IsRestriction}
use Rattle.viz_piece_restrict.proofs.CutLemmas.{image-cut}
use Rattle.viz_piece_restrict.proofs.restriction.restricted_image.Goals as goal

pub returns-clause-ok : goal.returns-clause-ok
returns-clause-ok c =
    subst (λ wanted. IsRestriction c.args.kept.now wanted (Image c.args.image.now) (Image c.in_ok-restrict-in-Block.field-0)) (sym c.in-Block.is)
    (image-cut c.args.kept.now c.in-Block.block c.args.image.now c.in_ok-restrict-in-Block.field-0 (subst (Covers c.args.kept.now) c.in-Block.is c.requires.covers)
    c.in_ok-restrict-in-Block.ensures.value c.in_ok-restrict-in-Block.ensures.valid)
