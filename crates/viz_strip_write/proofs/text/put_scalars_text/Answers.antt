use Rattle.std.proofs.Common.{◌∙◌, sym}
use Rattle.viz_sheet.specs.Arrays.{points_in}
use Rattle.viz_strip_write.proofs.PointLemmas.{scalars-put}
use Rattle.viz_strip_write.proofs.text.put_scalars_text.Goals as goal

pub returns-clause-ok : goal.returns-clause-ok
returns-clause-ok c =
    scalars-put (points_in c.args.places.now) c.len-2.result c.args.text.now.items c.put_scalars_head.new.text.items c.put_points.new.text.items
    (λ none. c.if-len-eq0.false (c.len.ensures.value ∙ (sym c.len-2.ensures.value ∙ none))) c.len-2.ensures.value c.in_ok-put_scalars_head.ensures c.in_ok-put_points.ensures.ok
