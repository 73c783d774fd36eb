use Rattle.std.proofs.Common.{◌≡◌, subst, rules}
use Rattle.std.proofs.lemmas.Result.{IfOk-weaker}
use Rattle.viz_extent.specs.Extent.{Bounds}
use Rattle.viz_meaning.specs.ImageFilters.{threshold_of}
use Rattle.viz_meaning.specs.WholeImages.{GivesOn}
use Rattle.viz_image_ops.proofs.PartLemmas.{through_part}
use Rattle.viz_image_ops.proofs.thresholding.threshold.Goals as goal

pub returns : goal.returns
returns c =
    let filter = threshold_of c.args.lo.now c.args.hi.now in
    let input = c.args.input.now in
    let part = c.in_ok-part.part in
    let out = c.args.out.now in
    record {
      value =
          IfOk-weaker c.thresholded-2.result (GivesOn filter part part.extent) (GivesOn filter input out) (λ output gives.
          through_part filter input part output out out c.requires.within c.in_ok-part.ensures.value c.in_ok-part.ensures.valid
          (rw (← c.in_ok-part.ensures.value.extent) gives)) c.thresholded-2.ensures;
    }

pub returns-then-eq : goal.returns-then-eq
returns-then-eq c =
    let filter = threshold_of c.args.lo.now c.args.hi.now in
    let input = c.args.input.now in
    let out = c.args.out.now in
    let same : input.extent ≡ out = search rules in
    record {
      value =
          IfOk-weaker c.thresholded.result (GivesOn filter input input.extent) (GivesOn filter input out)
          (λ output gives. subst (λ (b : Bounds). GivesOn filter input b output) same gives) c.thresholded.ensures;
    }
