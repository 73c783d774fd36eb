use Rattle.std.proofs.Common.{Some, ap₂, Bool, ℕ, None, List, [], cond, get_or, sym, subst, ◌∙◌}
use Rattle.std.proofs.lemmas.List.{get_or_default}
use Rattle.std.proofs.lemmas.Option.{cond_some}
use Rattle.viz_sheet.specs.Steps.Marking.{IsMarkedBy}
use Rattle.viz_piece_restrict.proofs.MarkLemmas.{marked-more, none-marked_to}
use Rattle.viz_piece_restrict.proofs.marking.mark_cells.Goals as goal

pub loop-i-init : goal.loop-i-init
loop-i-init g c = none-marked_to g.C.RankCell.ranks c.args.cells.now c.args.there.now c.args.levels.now c.args.level c.args.marks.now

pub loop-i-preserved : goal.loop-i-preserved
loop-i-preserved g c =
    let i = c.loop-i.i in
    let there = c.args.there.now in
    let levels = c.args.levels.now in
    marked-more g.C.RankCell.ranks i c.args.cells.now there levels c.args.level c.args.marks.now c.loop-i.marks c.mark_if.new.marks
    c.is_at.result c.index-cells-i.result
    (λ d. get_or_default c.args.cells.now i d c.index-cells-i.result c.loop-i-test.true ∙ sym c.index-cells-i.is)
    (λ e. let parts = cond_some (get_or there i _) (get_or levels i 0) c.args.level e in c.is_at.ensures.1 (parts.0, parts.1))
    (λ yes. let parts = c.is_at.ensures.0 yes in ap₂ (λ (t : Bool) (l : ℕ). cond t (Some l) None) parts.0 parts.1)
    c.loop-i.invariant
    (subst (λ (cell : List _). IsMarkedBy c.loop-i.marks (cond c.is_at.result cell []) c.mark_if.new.marks) c.listed.ensures c.mark_if.ensures)
