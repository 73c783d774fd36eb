use Rattle.std.proofs.Common.{ℕ, ◌<◌, [], get_or}
use Rattle.viz_cells.proofs.FitLemmas.{FitsCell}
use Rattle.viz_piece_plain.proofs.fit.is_fit.Given as goal

abbrev pub invariant-loop-i : goal.invariant-loop-i
invariant-loop-i l = (k : ℕ) → k < l.i → FitsCell (get_or l.sheet.cells k [])
