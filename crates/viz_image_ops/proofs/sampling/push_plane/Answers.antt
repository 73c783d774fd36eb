use Rattle.std.proofs.Common.{ℕ, ◌≤◌, map, arith}
use Rattle.viz_extent.specs.Extent.{size_x}
use Rattle.viz_extent.specs.Parts.{rate_of}
use Rattle.viz_extent.proofs.PartLemmas.{numbers-read}
use Rattle.viz_image_ops.specs.Joined.{run_of}
use Rattle.viz_image_ops.specs.Steps.{sampled_at}
use Rattle.viz_image_ops.proofs.JoinedLemmas.{lists_more}
use Rattle.viz_image_ops.proofs.sampling.push_plane.Goals as goal

pub loop-j-preserved : goal.loop-j-preserved
loop-j-preserved g c =
    let value = g.T.Number.value in
    let xs = map value c.args.numbers.now in
    let whole = c.args.whole.now in
    let out = c.args.out.now in
    let rows = λ (j : ℕ). run_of (λ i. sampled_at xs whole (rate_of c.args.rate) i j c.args.k) out.x0 (size_x out) in
    let read = numbers-read c.bounds.result out c.bounds.ensures.value in
    let from : out.y0 ≤ c.loop-j.j = omega (arith, read.y0, c.loop-j.auto.j) in
    lists_more rows out.y0 c.loop-j.j (map value c.args.kept.now.items) (map value c.loop-j.kept.items) (map value c.push_row.new.kept.items) from
    c.loop-j.invariant c.in_ok-push_row.ensures
