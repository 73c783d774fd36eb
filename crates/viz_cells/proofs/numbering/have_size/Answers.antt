use Rattle.std.proofs.Common.{◌≡◌, ◌∙◌, ap, length, rules, sym}
use Rattle.viz_sheet.proofs.RuleLemmas.{all_seen}
use Rattle.viz_cells.proofs.NumberLemmas.{all-more}
use Rattle.viz_cells.proofs.numbering.have_size.Goals as goal

pub loop-piece-preserved : goal.loop-piece-preserved
loop-piece-preserved c =
    all-more (λ piece. length piece ≡ c.args.size) c.args.pieces.now c.loop-piece.piece-index c.piece-item.result c.loop-piece-test.true c.piece-item.is c.loop-piece.invariant
    (sym (ap length c.keys.ensures.value) ∙ c.if-keys-size.false)

pub returns : goal.returns
returns c =
    (λ _. all_seen (λ piece. length piece ≡ c.args.size) c.args.pieces.now c.loop-piece.piece-index c.loop-piece-test.false c.loop-piece.invariant, λ _. search rules)
