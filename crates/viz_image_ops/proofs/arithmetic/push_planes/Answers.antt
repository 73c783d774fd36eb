use Rattle.std.proofs.Common.{◌≡◌, ℕ, ◌-◌, ◌++◌, ◌≤◌, map, ap, ◌∙◌, arith}
use Rattle.viz_extent.specs.Extent.{size_x, size_y, size_z}
use Rattle.viz_extent.proofs.PartLemmas.{numbers-read}
use Rattle.viz_image_ops.specs.Joined.{joined, run_of}
use Rattle.viz_image_ops.specs.Reckoned.{reckoned_at}
use Rattle.viz_image_ops.proofs.JoinedLemmas.{lists_more}
use Rattle.viz_image_ops.proofs.arithmetic.push_planes.Goals as goal

pub loop-k-preserved : goal.loop-k-preserved
loop-k-preserved g c =
    let grids = c.args.grids.now in
    let out = grids.out in
    let xs = map g.T.Number.value c.args.xs.now in
    let ys = map g.U.Number.value c.args.ys.now in
    let planes = λ (k : ℕ). joined (λ j. run_of (λ i. reckoned_at c.args.op grids xs ys i j k) out.x0 (size_x out)) out.y0 (size_y out) in
    let read = numbers-read c.bounds.result out c.bounds.ensures.value in
    let from : out.z0 ≤ c.loop-k.k = omega (arith, read.z0, c.loop-k.auto.k) in
    lists_more planes out.z0 c.loop-k.k c.args.all.now.items c.loop-k.all.items c.push_plane.new.all.items from c.loop-k.invariant c.in_ok-push_plane.ensures

pub returns : goal.returns
returns g c =
    let grids = c.args.grids.now in
    let out = grids.out in
    let xs = map g.T.Number.value c.args.xs.now in
    let ys = map g.U.Number.value c.args.ys.now in
    let planes = λ (k : ℕ). joined (λ j. run_of (λ i. reckoned_at c.args.op grids xs ys i j k) out.x0 (size_x out)) out.y0 (size_y out) in
    let read = numbers-read c.bounds.result out c.bounds.ensures.value in
    let all : c.loop-k.k - out.z0 ≡ size_z out = omega (arith, read.z0, read.z1, c.loop-k.auto.k, c.loop-k.auto.k-end, c.loop-k-test.false, c.bounds.ensures.valid.z.order) in
    c.loop-k.invariant ∙ ap (λ (n : ℕ). c.args.all.now.items ++ joined planes out.z0 n) all
