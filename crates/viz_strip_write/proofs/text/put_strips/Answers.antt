use Rattle.std.proofs.Common.{◌<◌, length, rules}
use Rattle.std.specs.Prelude.{codes}
use Rattle.viz_strip_write.proofs.TextLemmas.{section-put}
use Rattle.viz_strip_write.proofs.text.put_strips.Goals as goal

pub returns : goal.returns
returns c =
    let rows = c.args.rows.now in
    let some : 0 < length rows = search rules in
    section-put (codes "TRIANGLE_STRIPS") rows (length rows) c.args.size c.args.text.now.items c.put_section_line.new.text.items _ (search rules) c.requires.size some (search rules) c.in_ok-put_rows.ensures
