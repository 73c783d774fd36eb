use Rattle.std.proofs.Common.{ℕ, ◌≤◌, [], map, arith}
use Rattle.viz_extent.specs.Extent.{size_x, size_y}
use Rattle.viz_extent.specs.Parts.{rate_of}
use Rattle.viz_extent.proofs.PartLemmas.{numbers-read}
use Rattle.viz_image_ops.specs.Joined.{joined, run_of}
use Rattle.viz_image_ops.specs.Steps.{sampled_at}
use Rattle.viz_image_ops.proofs.JoinedLemmas.{lists_more}
use Rattle.viz_image_ops.proofs.sampling.sampled_column.Goals as goal

pub loop-k-preserved : goal.loop-k-preserved
loop-k-preserved g c =
    let value = g.T.Number.value in
    let xs = map value c.args.numbers.now in
    let whole = c.args.whole.now in
    let out = c.args.out.now in
    let planes = λ (k : ℕ). joined (λ j. run_of (λ i. sampled_at xs whole (rate_of c.args.rate) i j k) out.x0 (size_x out)) out.y0 (size_y out) in
    let read = numbers-read c.bounds.result out c.bounds.ensures.value in
    let from : out.z0 ≤ c.loop-k.k = omega (arith, read.z0, c.loop-k.auto.k) in
    lists_more planes out.z0 c.loop-k.k [] (map value c.loop-k.kept.items) (map value c.push_plane.new.kept.items) from
    c.loop-k.invariant c.in_ok-push_plane.ensures
