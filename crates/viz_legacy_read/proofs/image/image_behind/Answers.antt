use Rattle.std.proofs.Common.{◌∙◌, ap, length}
use Rattle.viz_column.specs.Numbers.{Numbers}
use Rattle.viz_legacy_read.proofs.ReadLaws.{count_is}
use Rattle.viz_legacy_read.proofs.image.image_behind.Goals as goal

pub new-requires-clause-count : goal.new-requires-clause-count
new-requires-clause-count c =
    ap (λ (n : Numbers). length n.items) c.in_ok-column.ensures ∙ count_is c.count-points.result c.in_ok-picked.picked c.in_ok-picked.ensures.picked.sized ∙ c.count-points.ensures.value
