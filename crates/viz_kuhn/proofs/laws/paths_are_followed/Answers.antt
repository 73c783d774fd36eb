use Rattle.std.proofs.Common.{◌≡◌, ◌%◌, refl}
use Rattle.std.specs.Prelude.{◌==◌, if◌then◌else◌}
use Rattle.viz_kuhn.specs.Corners.{path_of, exchanged, inversions}
use Rattle.viz_kuhn.specs.Kuhn.{rows, row_at, axes_of, corners_of}
use Rattle.viz_kuhn.proofs.RowLemmas.{below_six}
use Rattle.viz_kuhn.proofs.laws.paths_are_followed.Goals as goal

pub returns-clause-parity : goal.returns-clause-parity
unfolding rows
returns-clause-parity c =
    below_six (λ p. (row_at p).even ≡ (inversions (axes_of p) % 2 == 0)) refl refl refl refl refl refl

pub returns-clause-path : goal.returns-clause-path
unfolding rows
returns-clause-path c =
    below_six (λ p. corners_of p ≡ (if (row_at p).even then path_of (axes_of p) else exchanged (path_of (axes_of p))))
    refl refl refl refl refl refl
