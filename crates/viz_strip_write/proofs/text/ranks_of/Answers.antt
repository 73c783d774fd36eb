use Rattle.std.proofs.Common.{◌≡◌, ℕ, [], ◌∷◌, length, map, subst, sym, ap, ◌∙◌}
use Rattle.std.specs.Prelude.{All}
use Rattle.viz_sheet.specs.Arrays.{ranks_in}
use Rattle.viz_sheet.specs.Ranked.{IsCell, ranks_of}
use Rattle.viz_mesh_write.specs.Cells.{points_of}
use Rattle.viz_strip_write.proofs.CellLemmas.{ranks-again}
use Rattle.viz_strip_write.proofs.FitLemmas.{cells-alone, points-alone}
use Rattle.viz_strip_write.proofs.text.ranks_of.Goals as goal

pub returns-clause-cells : goal.returns-clause-cells
returns-clause-cells c =
    let s = c.args.sheet.now in
    let rule = c.ranks.ensures.valid.rule in
    sym (ranks-again s.names (ranks_in c.ranks.result.now) rule.ascending rule.each) ∙ ap (map (ranks_of s.names)) c.ranks.ensures.value ∙ cells-alone s

pub returns-clause-each : goal.returns-clause-each
returns-clause-each c =
    let s = c.args.sheet.now in
    let rule = c.ranks.ensures.valid.rule in
    let size : length s.names ≡ length (points_of (s ∷ [])) = sym rule.matched ∙ ap length (points-alone s) in
    subst (λ (n : ℕ). All (IsCell n) (ranks_in c.ranks.result.now)) size rule.each
