use Rattle.std.proofs.Common.{◌≡◌, ◌-◌, ◌++◌, map}
use Rattle.viz_extent.specs.Extent.{size_x}
use Rattle.viz_extent.specs.Parts.{rate_of}
use Rattle.viz_image_ops.specs.Joined.{joined, run_of}
use Rattle.viz_image_ops.specs.Steps.{sampled_at}
use Rattle.viz_image_ops.proofs.sampling.push_plane.Given as goal

-- the rows so far
abbrev pub invariant-loop-j : goal.invariant-loop-j
invariant-loop-j g l =
    map g.T.Number.value l.kept.items
    ≡ map g.T.Number.value l.fn.kept.items
    ++ joined (λ j. run_of (λ i. sampled_at (map g.T.Number.value l.numbers) l.whole (rate_of l.rate) i j l.k) l.out.x0 (size_x l.out)) l.out.y0 (l.j - l.out.y0)
