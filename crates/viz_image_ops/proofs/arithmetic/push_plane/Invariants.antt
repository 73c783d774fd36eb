use Rattle.std.proofs.Common.{◌≡◌, ◌-◌, ◌++◌, map}
use Rattle.viz_extent.specs.Extent.{size_x}
use Rattle.viz_image_ops.specs.Joined.{joined, run_of}
use Rattle.viz_image_ops.specs.Reckoned.{reckoned_at}
use Rattle.viz_image_ops.proofs.arithmetic.push_plane.Given as goal

-- the rows so far
abbrev pub invariant-loop-j : goal.invariant-loop-j
invariant-loop-j g l =
    let out = l.grids.out in
    l.all.items
    ≡ l.fn.all.items
    ++ joined (λ j. run_of (λ i. reckoned_at l.op l.grids (map g.T.Number.value l.xs) (map g.U.Number.value l.ys) i j l.k) out.x0 (size_x out)) out.y0 (l.j - out.y0)
