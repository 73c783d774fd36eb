use Rattle.std.proofs.Common.{◌≡◌, IfOk, length, sym, ap, ap₂, subst, ◌∙◌}
use Rattle.viz_piece_layers.specs.Pieces.{leaf_shift}
use Rattle.viz_piece_layers.specs.Sheets.{shifted_sheet}
use Rattle.viz_piece_tets.specs.Layers.{block_levels}
use Rattle.viz_piece_tets.proofs.PlaneLemmas.{ArePlanes, asked-planes, levels-match, planes-part}
use Rattle.viz_piece_tets.proofs.TetsLemmas.{made}
use Rattle.viz_piece_tets.proofs.tetrahedra.tets_piece.Goals as goal

pub leaf_base-base-requires : goal.leaf_base-base-requires
leaf_base-base-requires c =
    let whole = c.args.whole.now in
    let asks = asked-planes c.args.p c.args.n c.args.ghosts whole c.requires.below in
    record { part = planes-part whole c.extent-block.result c.bounds-bounds.ensures.valid (subst (ArePlanes whole) (sym (c.extent-block.ensures.value ∙ c.requires.slab)) asks) }

pub with_levels-requires-clause-part : goal.with_levels-requires-clause-part
with_levels-requires-clause-part c =
    let whole = c.args.whole.now in
    let asks = asked-planes c.args.p c.args.n c.args.ghosts whole c.requires.below in
    planes-part whole c.extent-block.result c.bounds-bounds.ensures.valid (subst (ArePlanes whole) (sym (c.extent-block.ensures.value ∙ c.requires.slab)) asks)

pub with_levels-requires-clause-matched : goal.with_levels-requires-clause-matched
with_levels-requires-clause-matched c =
    let whole = c.args.whole.now in
    let slab = c.args.slab.now in
    let asks = asked-planes c.args.p c.args.n c.args.ghosts whole c.requires.below in
    ap (λ s. length s.cells) (c.in_ok-sheet.ensures.value ∙ ap (shifted_sheet c.leaf_base-base.result) c.in_ok-sheet_of_tets.ensures.value)
    ∙ levels-match c.args.p c.args.n c.leaf_base-base.result whole slab (subst (ArePlanes whole) (sym c.requires.slab) asks)
    ∙ ap (λ e. length (block_levels c.args.p c.args.n whole e)) (sym c.extent-block.ensures.value)

pub returns : goal.returns
returns c =
    let whole = c.args.whole.now in
    let extent = c.extent-block.ensures.value in
    record {
      value =
          subst (λ q. IfOk c.with_levels.result (λ part. part ≡ q))
          (ap₂ made
          (c.in_ok-sheet.ensures.value ∙ ap₂ shifted_sheet (c.leaf_base-base.ensures.value ∙ ap (leaf_shift whole) extent) c.in_ok-sheet_of_tets.ensures.value)
          (ap (block_levels c.args.p c.args.n whole) extent))
          c.with_levels.ensures;
    }
