use Rattle.std.proofs.Common.{List, subst}
use Rattle.viz_parts.specs.declared.request.Part.{Part}
use Rattle.viz_piece_stitch.specs.Steps.Wholes.{ArePieces, AreSlabs}
use Rattle.viz_piece_stitch.proofs.KindLemmas.{image-whole, mesh-whole}
use Rattle.viz_piece_stitch.proofs.stitching.stitch_shared.Goals as goal

pub returns-then-is_image : goal.returns-then-is_image
returns-then-is_image c =
    let slabs = subst (λ (ps : List Part). AreSlabs ps) c.deref.ensures.value (c.is_image.ensures.slabs c.if-is_image.true) in
    record { whole = image-whole c.args.parts.items c.in_ok-image.image slabs c.in_ok-image.ensures }

pub returns : goal.returns
returns c =
    let pieces = subst (λ (ps : List Part). ArePieces ps) c.deref.ensures.value (c.is_image.ensures.pieces c.if-is_image.false) in
    record { whole = mesh-whole c.args.parts.items c.in_ok-mesh.mesh pieces c.in_ok-mesh.ensures }
