-- Parts are all of an image, or all of a mesh.
use Rattle.std.proofs.Common.{◌≡◌, ◌<◌, List, [], ◌∷◌, length, get_or, ap, subst, arith}
use Rattle.viz_dataset.specs.Images.{ImageData}
use Rattle.viz_dataset.specs.declared.dataset.Dataset.{Dataset}
use Rattle.viz_dataset.specs.declared.dataset.Dataset.TheVariants.{Image as WholeImage, Mesh as WholeMesh}
use Rattle.viz_parts.specs.Stitching.{AreAllOf, AreAllParts, ArePiecesOf, AreSlabsOf}
use Rattle.viz_parts.specs.declared.request.Part.{Part}
use Rattle.viz_parts.specs.declared.request.Part.TheVariants.{Image, Mesh}
use Rattle.viz_sheet.specs.Sheet.{SheetData}
use Rattle.viz_piece_stitch.specs.Steps.Columns.{IsMesh}
use Rattle.viz_piece_stitch.specs.Steps.Slabs.{IsPicture}
use Rattle.viz_piece_stitch.specs.Steps.Wholes.{ArePieces, AreSlabs}
use Rattle.viz_piece_stitch.proofs.ImageLemmas.{all-images, some-parts}
use Rattle.viz_piece_stitch.proofs.MeshLemmas.{of_count}

-- no part is both
pub not-both : (part : Part) → IsPicture part → IsMesh part → ⊥
not-both (Image image) p m = m
not-both (Mesh parts) p m = p

-- there are some
pub some-of : (parts : List Part) → AreAllParts parts → 0 < length parts
some-of parts (WholeImage whole, are) = some-parts whole parts are
some-of parts (WholeMesh sheets, are) = are.some

-- where the first is of a mesh, all are
pub all-pieces : (parts : List Part) (part : Part) → AreAllParts parts → get_or parts 0 part ≡ part → IsMesh part → ArePieces parts
all-pieces parts part (WholeImage whole, are) e m = absurd (not-both part (subst IsPicture e (all-images whole parts are 0 part (some-parts whole parts are))) m)
all-pieces parts part (WholeMesh sheets, are) e m = record { sheets = sheets; are = are }

a_part : (parts : List Part) → 0 < length parts → Part
a_part [] h = absurd (omega (arith, h))
a_part (p ∷ ps) h = p

-- the image is the whole
pub image-whole : (parts : List Part) (image : ImageData) → AreSlabs parts → ((whole : ImageData) → AreSlabsOf whole parts → image ≡ whole) → (whole : Dataset) → AreAllOf whole parts → WholeImage image ≡ whole
image-whole parts image slabs is (WholeImage whole) are = ap WholeImage (is whole are)
image-whole parts image slabs is (WholeMesh sheets) are =
    let first = a_part parts are.some in
    absurd (not-both (get_or parts 0 first) (all-images slabs.image parts slabs.are 0 first are.some) (of_count sheets parts are 0 first are.some).mesh)

-- the mesh is
pub mesh-whole : (parts : List Part) (mesh : List SheetData) → ArePieces parts → ((sheets : List SheetData) → ArePiecesOf sheets parts → mesh ≡ sheets) → (whole : Dataset) → AreAllOf whole parts → WholeMesh mesh ≡ whole
mesh-whole parts mesh pieces is (WholeImage whole) are =
    let first = a_part parts pieces.are.some in
    absurd (not-both (get_or parts 0 first) (all-images whole parts are 0 first pieces.are.some) (of_count pieces.sheets parts pieces.are 0 first pieces.are.some).mesh)
mesh-whole parts mesh pieces is (WholeMesh sheets) are = ap WholeMesh (is sheets are)
