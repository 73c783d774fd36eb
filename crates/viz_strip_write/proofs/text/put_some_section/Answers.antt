use Rattle.std.proofs.Common.{◌+◌, ◌*◌, ◌<◌, length, arith}
use Rattle.viz_sheet.specs.Arrays.{ranks_in}
use Rattle.viz_mesh_write.specs.Cells.{of_size}
use Rattle.viz_strip_write.proofs.TextLemmas.{section-put, size-is}
use Rattle.viz_strip_write.proofs.text.put_some_section.Goals as goal

pub returns : goal.returns
returns c =
    let all = ranks_in c.args.ranks.now in
    let cells = of_size c.args.size all in
    let some : 0 < length cells = omega (arith, c.requires.count, c.if-n-eq0.false) in
    section-put c.args.keyword.now cells c.args.n ((c.args.size + 1) * c.args.n) c.args.text.now.items c.put_section_line.new.text.items _ c.requires.count (size-is c.args.size c.args.n all c.requires.count) some c.in_ok-put_section_line.ensures
    c.in_ok-put_of_size.ensures
