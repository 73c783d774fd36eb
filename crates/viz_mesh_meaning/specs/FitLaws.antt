-- Laws of filters of meshes: what they give fits, so that sections of it have names.
use Rattle.std.specs.Prelude.{ℤ, Bool, List}
use Rattle.viz_sheet.specs.Sheet.{SheetData, IsFit, IsSheet}
use Rattle.viz_mesh_meaning.specs.Facets.{boundary_of}
use Rattle.viz_mesh_meaning.specs.Merge.{merged}
use Rattle.viz_mesh_meaning.specs.Select.{selected}

-- a selection of a sheet that fits fits
abbrev pub SelectionFits : Type 0
SelectionFits = (all : Bool) (lo hi : ℤ) (s : SheetData) → IsFit s → IsFit (selected all lo hi s)

-- the boundary of a sheet that fits fits
abbrev pub BoundaryFits : Type 0
BoundaryFits = (s : SheetData) → IsSheet s → IsFit s → IsFit (boundary_of s)

-- a merge that is a sheet fits, since its names have one leaf
abbrev pub MergeFits : Type 0
MergeFits = (sheets : List SheetData) → IsSheet (merged sheets) → IsFit (merged sheets)
