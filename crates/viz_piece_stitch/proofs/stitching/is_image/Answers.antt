use Rattle.std.proofs.Common.{◌≡◌, get_or, sym, subst, ◌∙◌, rules}
use Rattle.viz_parts.specs.declared.request.Part.{Part}
use Rattle.viz_parts.specs.declared.request.Part.TheVariants.{Mesh}
use Rattle.viz_piece_stitch.proofs.KindLemmas.{all-pieces, some-of}
use Rattle.viz_piece_stitch.proofs.stitching.is_image.Goals as goal

pub unreachable-requires : goal.unreachable-requires
unreachable-requires c = let some = some-of c.args.parts.now c.requires in search rules

pub returns-in-Mesh-clause-pieces : goal.returns-in-Mesh-clause-pieces
returns-in-Mesh-clause-pieces c = λ is.
    let first = c.in-Some.part.now in
    let mesh = Mesh c.in-Mesh.field-0 in
    let same : first ≡ mesh = sym c.get.ensures.value ∙ c.in-Mesh.is in
    let at : get_or c.args.parts.now 0 first ≡ first = search rules in
    all-pieces c.args.parts.now mesh c.requires (subst (λ (p : Part). get_or c.args.parts.now 0 p ≡ p) same at) tt
