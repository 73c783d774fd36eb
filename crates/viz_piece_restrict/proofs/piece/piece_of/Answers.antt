use Rattle.std.proofs.Common.{◌∙◌, ap₂, subst}
use Rattle.viz_sheet.specs.Kept.{kept}
use Rattle.viz_piece_restrict.specs.Steps.Cuts.{IsKeptSheet}
use Rattle.viz_piece_restrict.proofs.PieceLemmas.{kept-matched, piece-made}
use Rattle.viz_piece_restrict.proofs.piece.piece_of.Goals as goal

pub new-requires : goal.new-requires
new-requires c =
    let there = c.in_ok-around.around.there.items in
    let made = subst (λ ms. IsKeptSheet c.args.sheet.now ms c.in_ok-cut.cut) c.deref.ensures.value c.in_ok-cut.ensures in
    record {
      matched =
          kept-matched c.args.sheet.now c.in_ok-cut.cut there c.in_ok-around.around.levels.items c.in_ok-levels.levels.items c.in_ok-around.ensures.levels_size made
          (c.in_ok-levels.ensures ∙ ap₂ kept c.deref-2.ensures.value c.deref-3.ensures.value);
    }

pub returns : goal.returns
returns c =
    let there = c.in_ok-around.around.there.items in
    let made = subst (λ ms. IsKeptSheet c.args.sheet.now ms c.in_ok-cut.cut) c.deref.ensures.value c.in_ok-cut.ensures in
    record {
      ok =
          piece-made c.args.sheet.now c.in_ok-cut.cut c.args.own.items there c.in_ok-around.around.levels.items c.in_ok-levels.levels.items c.args.ghosts c.new.result
          c.requires.matched c.in_ok-around.ensures made
          (c.in_ok-levels.ensures ∙ ap₂ kept c.deref-2.ensures.value c.deref-3.ensures.value)
          c.new.ensures.sheet c.new.ensures.levels;
    }
