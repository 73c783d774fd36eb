use Rattle.std.proofs.Common.{◌++◌, ◌∙◌, ap, length, map, arith}
use Rattle.viz_fraction.specs.declared.case_table.Case.{Case}
use Rattle.viz_fraction.specs.Cases.{cells_at}
use Rattle.viz_cells.specs.Steps.Pieces.{end_key, held, keys_in}
use Rattle.viz_cells.proofs.PieceLemmas.{held-case, size-case}
use Rattle.viz_cells.proofs.pieces.push_cell.Goals as goal

pub push_case-requires : goal.push_case-requires
push_case-requires c = record {
  size = omega (arith, ap (λ (k : Case). k.size) c.cells_of-case.ensures.value ∙ size-case (length c.args.cell.now) c.mask.result, c.requires.cell.most);
}

pub returns : goal.returns
unfolding keys_in
returns c =
    let cell = c.args.cell.now in
    let old = c.args.out.now.items in
    c.in_ok-push_case.ensures
    ∙ ap (λ k. old ++ held cell k) c.cells_of-case.ensures.value
    ∙ ap (λ m. old ++ m) (held-case cell (length cell) c.mask.result (record { least = c.requires.cell.some; most = c.requires.cell.most; below = c.mask.ensures.below }))
    ∙ ap (λ m. old ++ map (map (end_key cell)) (cells_at (length cell) m)) c.mask.ensures.value
