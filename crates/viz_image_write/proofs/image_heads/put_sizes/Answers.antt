use Rattle.std.proofs.Common.{ℕ, ◌++◌, ap, ◌∙◌}
use Rattle.viz_extent.specs.Extent.{size_x, size_y}
use Rattle.viz_image_write.specs.ImageText.{dimensions_line}
use Rattle.viz_image_write.proofs.image_heads.put_sizes.Goals as goal

pub returns : goal.returns
returns c =
    let text = c.args.text.now.items in
    let extent = c.args.extent.now in
    let n = c.sizes-x.result in
    c.in_ok-put_dimensions.ensures ∙ ap (λ (k : ℕ). text ++ dimensions_line k n.1 n.2) c.sizes-x.ensures.x
    ∙ ap (λ (k : ℕ). text ++ dimensions_line (size_x extent) k n.2) c.sizes-x.ensures.y ∙ ap (λ (k : ℕ). text ++ dimensions_line (size_x extent) (size_y extent) k) c.sizes-x.ensures.z
