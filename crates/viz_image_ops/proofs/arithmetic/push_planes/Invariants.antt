use Rattle.std.proofs.Common.{◌≡◌, ◌-◌, ◌++◌, map}
use Rattle.viz_extent.specs.Extent.{size_x, size_y}
use Rattle.viz_image_ops.specs.Joined.{joined, run_of}
use Rattle.viz_image_ops.specs.Reckoned.{reckoned_at}
use Rattle.viz_image_ops.proofs.arithmetic.push_planes.Given as goal

-- the planes so far
abbrev pub invariant-loop-k : goal.invariant-loop-k
invariant-loop-k g l =
    let out = l.grids.out in
    l.all.items
    ≡ l.fn.all.items
    ++ joined
    (λ k. joined (λ j. run_of (λ i. reckoned_at l.op l.grids (map g.T.Number.value l.xs) (map g.U.Number.value l.ys) i j k) out.x0 (size_x out)) out.y0 (size_y out))
    out.z0
    (l.k - out.z0)
