use Rattle.std.proofs.Common.{◌∙◌, ap, length}
use Rattle.viz_fraction.specs.declared.case_table.Case.{Case}
use Rattle.viz_fraction.specs.Cases.{case_at, cells_at}
use Rattle.viz_mesh_parts.proofs.sectioning.count_in.Goals as goal

pub returns : goal.returns
unfolding case_at
returns c =
    let cell = c.args.cell.now in
    c.from.ensures
    ∙ ap (λ (k : Case). k.count) c.cells_of-case.ensures.value
    ∙ ap (λ m. length (cells_at (length cell) m)) c.mask.ensures.value
