-- The points of an image whose origin and spacing are whole numbers of units.
use Rattle.std.proofs.Common.{◌≡◌, ℕ, ℤ, pos, List, slice_index_or, refl, sym, ap, ◌∙◌}
use Rattle.std.specs.Prelude.{◌+ℤ◌, ◌*ℤ◌}
use Rattle.std.proofs.Math.IntN.{*ℤ_comm}
use Rattle.viz_fraction.specs.Points.{numbers, reduced}
use Rattle.viz_fraction.proofs.IntegersLemmas.{mul-+ℤ}
use Rattle.viz_fraction.proofs.PointsLemmas.{same_point}
use Rattle.viz_dataset.specs.Images.{billion, position, placed}
use Rattle.viz_dataset.proofs.PlaceLemmas.{reduced-units}
use Rattle.viz_grid_section.proofs.LeafLemmas.{turned}
use Rattle.viz_contour.specs.Steps.Units.{billions_of}

-- a position in units and in billionths
position-units : (origin spacing : ℤ) (index : ℕ) → (origin +ℤ spacing *ℤ pos index) *ℤ billion ≡ position (origin *ℤ billion) (spacing *ℤ billion) index
position-units origin spacing index =
    let steps = spacing *ℤ pos index in
    *ℤ_comm (origin +ℤ steps) billion ∙ mul-+ℤ billion origin steps
    ∙ ap (λ n. n +ℤ billion *ℤ steps) (*ℤ_comm billion origin)
    ∙ ap (λ n. origin *ℤ billion +ℤ n) (*ℤ_comm billion steps ∙ sym (turned spacing (pos index) billion))

-- a point of an image of whole units
pub placed-units : (origin spacing : List ℤ) (i j k : ℕ) (scalar : ℤ)
    → reduced (numbers (slice_index_or origin 0 (pos 0) +ℤ slice_index_or spacing 0 (pos 0) *ℤ pos i) (slice_index_or origin 1 (pos 0) +ℤ slice_index_or spacing 1 (pos 0) *ℤ pos j) (slice_index_or origin 2 (pos 0) +ℤ slice_index_or spacing 2 (pos 0) *ℤ pos k) scalar (pos 1))
    ≡ placed (billions_of origin) (billions_of spacing) i j k scalar
placed-units origin spacing i j k scalar =
    reduced-units _ _ _ scalar
    ∙ ap reduced (same_point _ _
    (position-units (slice_index_or origin 0 (pos 0)) (slice_index_or spacing 0 (pos 0)) i)
    (position-units (slice_index_or origin 1 (pos 0)) (slice_index_or spacing 1 (pos 0)) j)
    (position-units (slice_index_or origin 2 (pos 0)) (slice_index_or spacing 2 (pos 0)) k)
    refl refl)
