use Rattle.viz_sheet.specs.Arrays.{points_in}
use Rattle.viz_strip_write.proofs.PointLemmas.{points-put}
use Rattle.viz_strip_write.proofs.text.put_points_text.Goals as goal

pub returns-clause-ok : goal.returns-clause-ok
returns-clause-ok c =
    points-put (points_in c.args.places.now) c.len.result c.args.text.now.items c.put_points_line.new.text.items c.put_points.new.text.items c.len.ensures.value c.in_ok-put_points_line.ensures
    c.in_ok-put_points.ensures.ok
