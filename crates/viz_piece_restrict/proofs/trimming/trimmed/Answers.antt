use Rattle.std.proofs.Common.{◌∙◌, length, sym, subst, ap}
use Rattle.viz_sheet.specs.Kept.{kept}
use Rattle.viz_piece_restrict.specs.Steps.Cuts.{IsKeptSheet}
use Rattle.viz_piece_restrict.proofs.PieceLemmas.{kept-matched}
use Rattle.viz_piece_restrict.proofs.trimming.trimmed.Goals as goal

pub new-requires : goal.new-requires
new-requires c =
    let made = subst (λ ms. IsKeptSheet c.sheet.result.now ms c.in_ok-sheet.sheet) c.deref.ensures.value c.in_ok-sheet.ensures in
    record {
      matched =
          kept-matched c.sheet.result.now c.in_ok-sheet.sheet c.in_ok-keeps.keeps.items c.args.part.now.levels c.in_ok-levels.levels.items
          (c.known.ensures.valid.matched ∙ sym (ap (λ s. length s.cells) c.sheet.ensures.value)) made
          (c.in_ok-levels.ensures ∙ ap (λ ms. kept ms c.args.part.now.levels) c.deref-2.ensures.value);
    }
