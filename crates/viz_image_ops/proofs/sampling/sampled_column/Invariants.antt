use Rattle.std.proofs.Common.{◌≡◌, ◌-◌, map}
use Rattle.viz_extent.specs.Extent.{size_x, size_y}
use Rattle.viz_extent.specs.Parts.{rate_of}
use Rattle.viz_image_ops.specs.Joined.{joined, run_of}
use Rattle.viz_image_ops.specs.Steps.{sampled_at}
use Rattle.viz_image_ops.proofs.sampling.sampled_column.Given as goal

-- the planes so far
abbrev pub invariant-loop-k : goal.invariant-loop-k
invariant-loop-k g l =
    map g.T.Number.value l.kept.items
    ≡ joined
    (λ k. joined (λ j. run_of (λ i. sampled_at (map g.T.Number.value l.numbers) l.whole (rate_of l.rate) i j k) l.out.x0 (size_x l.out)) l.out.y0 (size_y l.out))
    l.out.z0
    (l.k - l.out.z0)
