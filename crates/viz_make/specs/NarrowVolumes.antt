-- That no number of a made volume's contour is wide (docs/FORMATS.md, "Made volumes").
use Rattle.std.specs.Prelude.{ℕ, ℤ, pos, [], ◌∷◌}
use Rattle.viz_extent.specs.Extent.{Bounds, IsExtent}
use Rattle.viz_fraction.specs.Forms.{contour_form}
use Rattle.viz_meaning.specs.Narrow.{AreNarrowSections}
use Rattle.viz_meaning.specs.Tetrahedra.{tetrahedra_sheet}
use Rattle.viz_make.specs.Volume.{volume}

-- the level at which made volumes are cut: half of all values lie below it
abbrev pub middle : ℤ
middle = pos 128

-- the contour of a made volume at the middle is narrow, on every extent
abbrev pub VolumesAreNarrow : Type 0
VolumesAreNarrow =
    (number : ℕ) (b : Bounds) → IsExtent b → AreNarrowSections (contour_form middle ∷ [])
    (tetrahedra_sheet (volume number b) ∷ [])
