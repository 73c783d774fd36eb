use Rattle.std.proofs.Common.{length, ap, ◌∙◌}
use Rattle.viz_column.specs.Numbers.{Numbers}
use Rattle.viz_extent.specs.Extent.{Bounds}
use Rattle.viz_dataset.specs.Images.{ImageData}
use Rattle.viz_image_ops.specs.Joined.{values_on}
use Rattle.viz_image_ops.specs.Reckoned.{reckoned_at}
use Rattle.viz_image_ops.proofs.JoinedLemmas.{length-values_on}
use Rattle.viz_image_ops.proofs.ArithLemmas.{with_extents, reckoned-on}
use Rattle.viz_image_ops.proofs.arithmetic.arith.Goals as goal

pub new-requires-clause-count : goal.new-requires-clause-count
new-requires-clause-count c =
    let out = c.args.out.now in
    ap (λ (n : Numbers). length n.items) c.in_ok-column.ensures
    ∙ length-values_on (reckoned_at c.args.op (with_extents c.extent.result c.extent-2.result out) c.column.result.now.items c.column-2.result.now.items) out

pub returns : goal.returns
returns c =
    let op = c.args.op in
    let a = c.args.a.now in
    let b = c.args.b.now in
    let out = c.args.out.now in
    let first = c.column.result.now in
    let second = c.column-2.result.now in
    let made = c.new.ensures.value in
    let items = ap (λ (i : ImageData). i.values.items) made ∙ ap (λ (n : Numbers). n.items) c.in_ok-column.ensures
    ∙ ap (λ (e : Bounds). values_on (reckoned_at op (with_extents e c.extent-2.result out) first.items second.items) out) c.extent.ensures.value
    ∙ ap (λ (e : Bounds). values_on (reckoned_at op (with_extents a.extent e out) first.items second.items) out) c.extent-2.ensures.value
    ∙ ap (λ (n : Numbers). values_on (reckoned_at op (with_extents a.extent b.extent out) n.items second.items) out) c.column.ensures.value
    ∙ ap (λ (n : Numbers). values_on (reckoned_at op (with_extents a.extent b.extent out) a.values.items n.items) out) c.column-2.ensures.value in
    record {
      value =
          reckoned-on op a b c.new.result out c.requires.first c.requires.second (ap (λ (i : ImageData). i.extent) made)
          (ap (λ (i : ImageData). i.origin) made ∙ c.origin.ensures.value)
          (ap (λ (i : ImageData). i.spacing) made ∙ c.spacing.ensures.value)
          (ap (λ (i : ImageData). i.values.kind) made ∙ ap (λ (n : Numbers). n.kind) c.in_ok-column.ensures) items c.new.ensures.valid;
    }
