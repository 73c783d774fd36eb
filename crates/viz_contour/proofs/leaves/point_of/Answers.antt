use Rattle.std.proofs.Common.{pos, slice_index_or, sym, ap, ◌∙◌, rules}
use Rattle.std.specs.Int.{w128}
use Rattle.std.proofs.lemmas.Int.{to_z-of_z}
use Rattle.viz_dataset.specs.Images.{placed}
use Rattle.viz_contour.proofs.leaves.point_of.Goals as goal

pub returns-in-Some : goal.returns-in-Some
returns-in-Some c =
    let image = c.args.image.now in
    c.whole_point.ensures
    ∙ ap (λ n. placed image.origin image.spacing c.args.i c.args.j c.args.k n) (to_z-of_z w128 c.scalar_at.result (search rules) ∙ c.scalar_at.ensures.value)
    ∙ ap (λ m. placed image.origin image.spacing c.args.i c.args.j c.args.k (slice_index_or image.values.items m (pos 0))) (sym c.requires.number)
