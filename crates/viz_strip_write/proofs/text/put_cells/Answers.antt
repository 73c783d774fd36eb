use Rattle.std.proofs.Common.{◌∙◌, sym}
use Rattle.viz_sheet.specs.Arrays.{ranks_in}
use Rattle.viz_strip_write.proofs.TextLemmas.{no-cells}
use Rattle.viz_strip_write.proofs.text.put_cells.Goals as goal

pub returns-then-len-eq0 : goal.returns-then-len-eq0
returns-then-len-eq0 c =
    no-cells (ranks_in c.args.ranks.now) c.args.rows.now c.args.text.now.items c.put_section_line.new.text.items (sym c.len.ensures.value ∙ c.if-len-eq0.true) c.in_ok-put_section_line.ensures
