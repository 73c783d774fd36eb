use Rattle.std.proofs.Common.{subst, sym}
use Rattle.std.specs.List.{All}
use Rattle.viz_piece_divisions.specs.Answers.{IsFitPart}
use Rattle.viz_sheet.specs.Sheet.{IsFit}
use Rattle.viz_piece_plain.proofs.fit.is_fit_part.Goals as goal

pub returns-in-Mesh : goal.returns-in-Mesh
returns-in-Mesh c = record {
  fit = λ h.
      subst IsFitPart (sym c.in-Mesh.is)
      (record { each = subst (All (λ p. IsFit p.sheet)) c.deref.ensures.value (c.are_fit.ensures h) });
}
