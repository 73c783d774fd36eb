use Rattle.std.proofs.Common.{ℕ, ◌+◌, ◌*◌, ap, ◌∙◌, arith}
use Rattle.std.proofs.lemmas.List.{length-map}
use Rattle.viz_extent.specs.Extent.{Has}
use Rattle.viz_extent.specs.Numbering.{index_at}
use Rattle.viz_extent.specs.Parts.{rate_of}
use Rattle.viz_extent.proofs.PartLemmas.{numbers-read}
use Rattle.viz_image_ops.proofs.SampleLemmas.{has_multiples, multiple_below}
use Rattle.viz_image_ops.proofs.sampling.push_row.Goals as goal

pub index_of_multiple-start-requires : goal.index_of_multiple-start-requires
index_of_multiple-start-requires g c =
    let out = c.args.out.now in
    let read = numbers-read c.bounds.result out c.bounds.ensures.value in
    let has : Has out out.x0 c.args.j c.args.k =
    record {
      x = record { at_least = omega arith; at_most = c.bounds.ensures.valid.x.order };
      y = c.requires.y;
      z = c.requires.z;
    } in
    rw read.x0 (has_multiples c.args.whole.now out (rate_of c.args.rate) out.x0 c.args.j c.args.k c.requires.rate c.requires.within has)

pub push_every-requires : goal.push_every-requires
push_every-requires g c =
    let whole = c.args.whole.now in
    let out = c.args.out.now in
    let rate = rate_of c.args.rate in
    let read = numbers-read c.bounds.result out c.bounds.ensures.value in
    let start = c.index_of_multiple-start.ensures.value ∙ ap (λ (n : ℕ). index_at whole (n * rate.x) (c.args.j * rate.y) (c.args.k * rate.z)) read.x0 in
    record {
      within = λ m below.
          let has : Has out (out.x0 + m) c.args.j c.args.k =
          record {
            x = record {
              at_least = omega arith;
              at_most = omega (arith, read.x0, read.x1, below, c.bounds.ensures.valid.x.order);
            };
            y = c.requires.y;
            z = c.requires.z;
          } in
          let inside = multiple_below whole out rate m c.args.j c.args.k c.requires.rate c.requires.within has in
          omega (arith, inside, start, c.requires.count, length-map c.args.numbers.now g.T.Number.value);
    }
