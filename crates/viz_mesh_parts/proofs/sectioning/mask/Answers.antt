use Rattle.std.proofs.Common.{ℕ, ◌^◌, ◌<◌, length, false, slice_index_or, subst, sym}
use Rattle.viz_cells.proofs.PieceLemmas.{mask_four}
use Rattle.viz_meaning.proofs.BitLemmas.{mask_below}
use Rattle.viz_mesh_parts.proofs.sectioning.mask.Goals as goal

pub returns-clause-value : goal.returns-clause-value
returns-clause-value c =
    mask_four (λ r. slice_index_or c.args.inside.now r false) c.args.cell.now _ _ _ _ c.requires.most
    c.bit-a.ensures.has c.bit-b.ensures.has c.bit-c.ensures.has c.bit-d.ensures.has
    c.bit-a.ensures.none c.bit-b.ensures.none c.bit-c.ensures.none c.bit-d.ensures.none

pub returns-clause-below : goal.returns-clause-below
returns-clause-below c =
    let f = λ (r : ℕ). slice_index_or c.args.inside.now r false in
    subst (λ m. m < 2 ^ length c.args.cell.now) (sym (returns-clause-value c)) (mask_below f c.args.cell.now c.requires.most)
