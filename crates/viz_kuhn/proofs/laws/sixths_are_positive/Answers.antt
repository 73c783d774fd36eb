use Rattle.std.proofs.Common.{◌≡◌, ℕ, ◌<◌}
use Rattle.std.specs.Prelude.{pos, map}
use Rattle.viz_kuhn.specs.Kuhn.{rows, corners_of}
use Rattle.viz_kuhn.specs.Places.{Place, place_of, sixths}
use Rattle.viz_kuhn.proofs.RowLemmas.{below_six, sixths-moved}
use Rattle.viz_kuhn.proofs.laws.sixths_are_positive.Goals as goal

rows_are_positive : (p : ℕ) (lowest : Place) → p < 6
    → sixths (map (place_of lowest) (corners_of p)) ≡ pos 1
unfolding rows
rows_are_positive p lowest below =
    below_six (λ p. sixths (map (place_of lowest) (corners_of p)) ≡ pos 1)
    (sixths-moved lowest _ _ _ _) (sixths-moved lowest _ _ _ _) (sixths-moved lowest _ _ _ _)
    (sixths-moved lowest _ _ _ _) (sixths-moved lowest _ _ _ _) (sixths-moved lowest _ _ _ _)
    p below

pub returns : goal.returns
returns c = record { volume = rows_are_positive }
