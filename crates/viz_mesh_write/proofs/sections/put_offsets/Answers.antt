use Rattle.std.proofs.Common.{ℕ, ◌<◌, ◌^◌, ◌∙◌, None, true, ap, map, subst, sym, arith}
use Rattle.std.specs.List.{All, flat_map}
use Rattle.viz_mesh_write.specs.Sections.{offsets_of}
use Rattle.viz_mesh_write.specs.Steps.Passes.{IsMovable, kept, kept_row}
use Rattle.viz_mesh_write.specs.Steps.SheetCells.{indices_by}
use Rattle.viz_mesh_write.proofs.SectionLemmas.{offsets_are}
use Rattle.viz_mesh_write.proofs.StartLemmas.{count_is, starts_are, are_movable, offset_rows}
use Rattle.viz_mesh_write.proofs.sections.put_offsets.Goals as goal

pub offsets_of-requires-clause-few : goal.offsets_of-requires-clause-few
offsets_of-requires-clause-few g c =
    subst (λ (k : ℕ). k < 2 ^ 31) (sym (count_is c.args.size (map g.S.SheetCells.seen c.args.sheets.now))) c.requires.few

pub put_ranks-requires-clause-movable : goal.put_ranks-requires-clause-movable
put_ranks-requires-clause-movable g c =
    let cells = kept c.args.size (indices_by g.S.SheetCells.seen c.args.sheets.now) in
    let is = c.in_ok-offsets.ensures ∙ starts_are c.args.size (map g.S.SheetCells.seen c.args.sheets.now) in
    let few = c.requires.few in
    subst (All (IsMovable 0)) (sym is) (are_movable 0 cells (omega (arith, few)))

pub returns : goal.returns
returns g c =
    let cells = kept c.args.size (indices_by g.S.SheetCells.seen c.args.sheets.now) in
    let is = c.in_ok-offsets.ensures ∙ starts_are c.args.size (map g.S.SheetCells.seen c.args.sheets.now) in
    offsets_are c.args.binary cells c.args.n _ (g.T.Target.text c.args.text.now) (g.T.Target.text c.put_offsets_line.new.text) (g.T.Target.text c.put_ranks.new.self) _ c.requires.count
    (ap (flat_map (kept_row None true c.args.binary 0)) is ∙ offset_rows c.args.binary (offsets_of cells))
    c.in_ok-put_offsets_line.ensures c.in_ok-put_ranks.ensures c.in_ok-put_end.ensures
