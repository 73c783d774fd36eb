-- The tetrahedra of an image are a sheet (docs/FORMATS-OF-FILTERS.md, "Kuhn's subdivision").
use Rattle.viz_dataset.specs.Images.{ImageData, IsImage}
use Rattle.viz_sheet.specs.PairNames.{AreNames}
use Rattle.viz_sheet.specs.Sheet.{IsFit, IsSheet}
use Rattle.viz_meaning.specs.Tetrahedra.{tetrahedra_sheet}

-- the tetrahedra of an image are a sheet
abbrev pub TetrahedraAreSheet : Type 0
TetrahedraAreSheet = (image : ImageData) → IsImage image → IsSheet (tetrahedra_sheet image)

-- each of their names is one leaf
abbrev pub TetrahedraHaveLeaves : Type 0
TetrahedraHaveLeaves = (image : ImageData) → AreNames 1 (tetrahedra_sheet image).names

-- the sheet fits
abbrev pub TetrahedraFit : Type 0
TetrahedraFit = (image : ImageData) → IsImage image → IsFit (tetrahedra_sheet image)
